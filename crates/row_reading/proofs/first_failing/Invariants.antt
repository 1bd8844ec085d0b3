-- Every position of the words passed holds, so the first failing one is looked for from there on.
use mathlib.Core.Path.{◌≡◌}
use Prim.Native.Nat.{◌-◌, ◌*◌, min}
use Rattle.logic.specs.Truth.{Sequence}
use Rattle.row_words.specs.Row as rows
use Rattle.row_reading.proofs.first_failing.Given as goal

abbrev pub invariant-loop-w : goal.invariant-loop-w
invariant-loop-w l = (f : Sequence) → l.row ≡ rows.row l.positions f → rows.first_false f 0 l.positions ≡ rows.first_false f (min (l.w * 64) l.positions) (l.positions - l.w * 64)
