use Rattle.letter_checks.proofs.Letters.{passing_none, passing_refused, passing_next, passing_all}
use Rattle.letter_checks.proofs.check_letters.Goals as goal

pub loop-i-init : goal.loop-i-init
loop-i-init c = passing_none _ _

pub returns-then-is_undriven : goal.returns-then-is_undriven
returns-then-is_undriven c = passing_refused c.loop-i.invariant c.loop-i-test.true c.is_undriven.ensures c.if-is_undriven.true

pub loop-i-preserved : goal.loop-i-preserved
loop-i-preserved c = passing_next c.loop-i.invariant c.loop-i-test.true c.is_undriven.ensures c.if-is_undriven.false

pub returns : goal.returns
returns c = passing_all c.loop-i.invariant c.loop-i-test.false
