-- The words passed are those of the row; the last one, with what comes in at the end, is written after them.
use mathlib.Core.Path.{◌≡◌}
use Rattle.logic.specs.Truth.{Sequence}
use Rattle.row_words.specs.Row as rows
use Rattle.rows.proofs.shift_words.Given as goal

abbrev pub invariant-loop-w : goal.invariant-loop-w
invariant-loop-w l = (A : Sequence) → l.a ≡ rows.row l.positions A → rows.Written l.positions (rows.next l.positions A l.end) 0 l.w l.row
