use native.Mathlib.Omega.{arith}
use Rattle.fixpoint_checks.proofs.Counting.{counting_none, counting_taken, counting_left, counting_past, counting_all}
use Rattle.fixpoint_checks.proofs.past.Goals as goal
use Rattle.fixpoint_checks.proofs.past.Goals.{then-is_fixpoint+else-found-limit, else-is_fixpoint}

pub loop-i-init : goal.loop-i-init
loop-i-init c = counting_none _ _

pub returns-then-found-limit : goal.returns-then-found-limit
returns-then-found-limit c =
    (omega arith, counting_past c.loop-i.invariant c.loop-i-test.true c.is_fixpoint.ensures c.if-is_fixpoint.true c.if-found-limit.true)

pub overflow_add-found : goal.overflow_add-found
overflow_add-found c = omega (arith, c.loop-i.invariant.few)

pub loop-i-preserved : goal.loop-i-preserved
loop-i-preserved c =
    elim c.if-is_fixpoint.branch [
      | then-is_fixpoint+else-found-limit w ↦ counting_taken c.loop-i.invariant c.loop-i-test.true c.is_fixpoint.ensures w.if-is_fixpoint.true w.if-found-limit.false w.found-is
      | else-is_fixpoint w ↦ counting_left c.loop-i.invariant c.loop-i-test.true c.is_fixpoint.ensures w.if-is_fixpoint.false w.found-is
    ]

pub returns : goal.returns
returns c = counting_all c.loop-i.invariant c.loop-i-test.false
