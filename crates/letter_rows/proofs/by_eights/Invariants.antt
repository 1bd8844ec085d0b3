-- What is there is what is packed of the samples passed; those that are left are whole eights.
use mathlib.Core.Path.{◌≡◌}
use Prim.Native.Nat.{◌+◌, ◌-◌, ◌*◌}
use lib.ListN.{get_or}
use Rattle.logic.specs.Lasso.{letter_in}
use Rattle.row_words.specs.Row.{pack_bits}
use Rattle.letter_rows.proofs.by_eights.Given as goal

abbrev pub invariant-loop-k : goal.invariant-loop-k
invariant-loop-k l = l.word ≡ pack_bits (λ j. letter_in (get_or l.samples j 0) l.letter) (l.first + l.k * 8) (l.n - l.k * 8)
