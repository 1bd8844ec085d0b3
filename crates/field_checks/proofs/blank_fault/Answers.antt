-- The test decides the one check.
use borrow.Author.Tests.{eq-eqb, ne_eqb}
use Rattle.field_checks.proofs.blank_fault.Goals as goal

pub returns-then-field-ne0 : goal.returns-then-field-ne0
returns-then-field-ne0 c = rw (ne_eqb _ _ c.if-field-ne0.true)

pub returns : goal.returns
returns c = rw (eq-eqb _ _ c.if-field-ne0.false)
