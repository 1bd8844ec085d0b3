-- What is added tells whether one step leaves the words passed as they are.
use mathlib.Core.Path.{◌≡◌}
use mathlib.Core.Bool.{Bool}
use mathlib.Core.List.{List}
use Prim.Native.Nat.{ℕ}
use lib.ListN.{get_or}
use lib.Bits.{bit_or, bit_and}
use Rattle.logic.specs.Truth.{Sequence}
use Rattle.row_words.specs.Row as rows
use Rattle.row_words.proofs.Compared.{Tells}
use Rattle.settled_rows.proofs.settled.Given as goal

-- word v after one step, by what comes next at its positions
abbrev pub over : List ℕ → List ℕ → ℕ → ℕ → ℕ
over g p v x = bit_or (get_or g v 0) (bit_and (get_or p v 0) x)

abbrev pub stepped : ℕ → Sequence → Bool → List ℕ → List ℕ → ℕ → ℕ
stepped L G c g p v = over g p v (rows.word_of L (rows.next L G c) v)

abbrev pub invariant-loop-w : goal.invariant-loop-w
invariant-loop-w l = ((G : Sequence) → l.g ≡ rows.row l.positions G → Tells l.added (stepped l.positions G l.end l.g l.p) (λ v. get_or l.g v 0) l.w)
