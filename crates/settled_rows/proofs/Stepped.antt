-- One step that leaves every position as it is: then no sweep is needed.
use mathlib.Core.Path.{◌≡◌, sym, ap, ap₂, ◌∙◌}
use mathlib.Core.Bool.{Bool, ◌&&◌, ◌||◌}
use mathlib.Core.List.{List}
use Prim.Native.Nat.{ℕ, suc, ◌-◌, ◌*◌, ◌<◌}
use native.Mathlib.Omega.{arith}
use lib.ListN.{get_or}
use lib.Bits.{bit_and, bit_or}
use Rattle.logic.specs.Truth.{Sequence, sweep}
use Rattle.row_words.specs.Row.{row_words, filled, word_of, row, next}
use Rattle.row_words.proofs.Bits.{pack_and, pack_or}
use Rattle.row_words.proofs.Rows.{in_row, row_ext, by_words, sweep-settled}
use Rattle.row_words.proofs.Compared.{row_words_lem}

module _ (L : ℕ) (G P : Sequence) where
  -- one step that leaves every position as it is
  pub settled-row : (c : Bool) → row L (λ i. G i || (P i && next L G c i)) ≡ row L G → row L G ≡ row L (λ i. sweep G P c i (L - i))
  settled-row c e =
      row_ext L G (λ i. sweep G P c i (L - i)) (λ i h.
      let m : L - i ≡ suc (L - i - 1) = omega arith in
      let step = by_words L (λ i. G i || (P i && next L G c i)) G (row_words_lem L (λ i. G i || (P i && next L G c i)) G e) in
      rw m (sym (sweep-settled L G P c step i (L - i - 1) (omega arith))))

  -- the words of these rows, from those of the goal's and the keep's
  module _ (g p : List ℕ) (eg : g ≡ row L G) (ep : p ≡ row L P) where
    pub step_word : (c : Bool) (w : ℕ) → w < row_words L
        → bit_or (get_or g w 0) (bit_and (get_or p w 0) (word_of L (next L G c) w)) ≡ word_of L (λ i. G i || (P i && next L G c i)) w
    unfolding word_of
    step_word c w h =
        ap₂ (λ (x y : ℕ). bit_or x (bit_and y (word_of L (next L G c) w))) (in_row L G g eg w h) (in_row L P p ep w h)
        ∙ ap (bit_or (word_of L G w)) (pack_and P (next L G c) (w * 64) (filled L w)) ∙ pack_or G (λ i. P i && next L G c i) (w * 64) (filled L w)
