-- Each test decides one check.
use mathlib.Core.Path.{refl}
use borrow.Author.Tests.{eq-eqb, ne_eqb, le-leb, lt-leb}
use Rattle.field_checks.proofs.First.{refused}
use Rattle.field_checks.proofs.operand_fault.Goals as goal

pub returns-then-operand-eq0 : goal.returns-then-operand-eq0
returns-then-operand-eq0 c = refused (rw (eq-eqb _ _ c.if-operand-eq0.true))

pub returns-then-n-operand : goal.returns-then-n-operand
returns-then-n-operand c = refused (rw (ne_eqb _ _ c.if-operand-eq0.false, le-leb _ _ c.if-n-operand.true))

pub returns : goal.returns
returns c = record { answer = rw (ne_eqb _ _ c.if-operand-eq0.false, lt-leb _ _ c.if-n-operand.false); passed = λ z. refl }
