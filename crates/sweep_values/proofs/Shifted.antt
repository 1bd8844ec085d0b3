-- The words from a position on.
use mathlib.Core.Path.{◌≡◌, refl, sym, ap, ap₂, ◌∙◌}
use mathlib.Core.List.{List}
use Prim.Native.Nat.{ℕ, ◌-◌, ◌*◌, ◌/◌, ◌%◌, ◌^◌, ◌<◌}
use native.Mathlib.Omega.{arith}
use lib.ListN.{get_or}
use Rattle.logic.specs.Truth.{Sequence}
use Rattle.row_words.specs.Row.{pack_bits, filled, row}
use Rattle.row_words.proofs.Bits.{pack-drop}
use Rattle.row_words.proofs.Rows.{row-pack}

-- a word shifted down to position i is what is packed from there to the word's end
pub word_from : (L : ℕ) (f : Sequence) (r : List ℕ) (i n : ℕ) → r ≡ row L f → i < L → n ≡ filled L (i / 64) - i % 64
    → get_or r (i / 64) 0 / 2 ^ (i % 64) ≡ pack_bits f i n
word_from L f r i n e h en =
    ap (λ (x : ℕ). x / 2 ^ (i % 64)) (row-pack L f r e (i / 64) (filled L (i / 64)) (omega arith) refl)
    ∙ pack-drop f (i / 64 * 64) (filled L (i / 64)) (i % 64) (omega arith)
    ∙ ap₂ (pack_bits f) (omega arith) (sym en)
