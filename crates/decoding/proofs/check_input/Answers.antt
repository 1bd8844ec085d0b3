use Prim.Native.Nat.{◌+◌, ◌%◌}
use native.Mathlib.Omega.{arith}
use borrow.Author.Tests.{ne_eqb, eq-eqb}
use Rattle.table.specs.StepChecks.{input_checks}
use Rattle.decoding.proofs.check_input.Goals as goal

pub returns-then-first-rest-ne0 : goal.returns-then-first-rest-ne0
unfolding input_checks
returns-then-first-rest-ne0 c = rw (ne_eqb ((c.args.first + c.args.rest) % 4) 0 (omega (arith, c.if-first-rest-ne0.true)))

pub returns : goal.returns
unfolding input_checks
returns c = rw (eq-eqb ((c.args.first + c.args.rest) % 4) 0 (omega (arith, c.if-first-rest-ne0.false)))
