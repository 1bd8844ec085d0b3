-- The word is made from the last sample down, so what is there is what is packed of the samples passed.
use mathlib.Core.Path.{◌≡◌}
use mathlib.Core.Bool.{Bool}
use mathlib.Core.List.{List}
use Prim.Native.Nat.{ℕ, ◌+◌, ◌-◌}
use lib.ListN.{get_or}
use Rattle.logic.specs.Lasso.{letter_in}
use Rattle.row_words.specs.Row.{pack_bits}
use Rattle.letter_bits.proofs.one_by_one.Given as goal

-- whether the letter holds in each sample
abbrev at : List ℕ → ℕ → ℕ → Bool
at samples letter j = letter_in (get_or samples j 0) letter

abbrev pub invariant-loop-i : goal.invariant-loop-i
invariant-loop-i l = l.word ≡ pack_bits (at l.samples l.letter) (l.first + l.i) (l.n - l.i)
