-- The goal or the keep at every position: then no sweep is needed.
use mathlib.Core.Path.{◌≡◌, sym, ap₂, ◌∙◌}
use mathlib.Core.Bool.{true, ◌||◌}
use mathlib.Core.List.{List}
use Prim.Native.Nat.{ℕ, ◌-◌, ◌*◌, ◌^◌, ◌<◌}
use native.Mathlib.Omega.{arith}
use lib.ListN.{get_or}
use lib.Bits.{bit_or}
use Rattle.logic.specs.Truth.{Sequence, sweep}
use Rattle.row_words.specs.Row.{row_words, filled, word_of, row}
use Rattle.row_words.proofs.Bits.{pack_or, pack-ones}
use Rattle.row_words.proofs.Rows.{in_row, row_ext, by_words, sweep_everywhere}
use Rattle.row_words.proofs.Compared.{row_words_lem}

module _ (L : ℕ) (G P : Sequence) where
  -- the goal or the keep at every position
  pub full-row : row L (λ i. G i || P i) ≡ row L (λ i. true) → row L (λ i. true) ≡ row L (λ i. sweep G P true i (L - i))
  full-row e =
      row_ext L (λ i. true) (λ i. sweep G P true i (L - i)) (λ i h.
      sym (sweep_everywhere L G P (by_words L (λ i. G i || P i) (λ i. true) (row_words_lem L (λ i. G i || P i) (λ i. true) e)) i (L - i) (omega arith)))

  -- the words of these rows, from those of the goal's and the keep's
  module _ (g p : List ℕ) (eg : g ≡ row L G) (ep : p ≡ row L P) where
    pub full-word : (w : ℕ) → w < row_words L → bit_or (get_or g w 0) (get_or p w 0) ≡ word_of L (λ i. G i || P i) w
    unfolding word_of
    full-word w h = ap₂ bit_or (in_row L G g eg w h) (in_row L P p ep w h) ∙ pack_or G P (w * 64) (filled L w)

    pub ones-word : (w : ℕ) → w < row_words L → 2 ^ filled L w - 1 ≡ word_of L (λ i. true) w
    unfolding word_of
    ones-word w h = pack-ones (w * 64) (filled L w)
