-- The words passed are those of the row, whatever sequences the operands are rows of; the last one is written after them.
use mathlib.Core.Path.{◌≡◌}
use Rattle.logic.specs.Truth.{Sequence, across}
use Rattle.row_words.specs.Row as rows
use Rattle.row_words.specs.Writing.{joins}
use Rattle.connective_rows.proofs.join_words.Given as goal

abbrev pub invariant-loop-w : goal.invariant-loop-w
invariant-loop-w l = (A B : Sequence) → l.a ≡ rows.row l.positions A → l.b ≡ rows.row l.positions B
    → rows.Written l.positions (across (joins l.op) A B) 0 l.w l.row
