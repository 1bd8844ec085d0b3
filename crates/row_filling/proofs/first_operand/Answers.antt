-- A left field of 0 is that of a word with one operand.
use borrow.Author.Tests.{eq-eqb, ne_eqb}
use Rattle.row_filling.specs.Filling.{first_operand}
use Rattle.row_filling.proofs.first_operand.Goals as goal

pub returns-then-left-eq0 : goal.returns-then-left-eq0
unfolding first_operand
returns-then-left-eq0 c = rw (← c.left-left.ensures, eq-eqb _ _ c.if-left-eq0.true) c.right.ensures

pub returns-else-left-eq0 : goal.returns-else-left-eq0
unfolding first_operand
returns-else-left-eq0 c = rw (← c.left-left.ensures, ne_eqb _ _ c.if-left-eq0.false)
