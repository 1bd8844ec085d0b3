use native.Mathlib.Omega.{arith}
use mathlib.Core.Path.{refl}
use lib.ListN.{length-set}
use Rattle.state_numbers.proofs.Counting.{classed-few, count-few, counting_none, counting_more, counting_all}
use Rattle.state_numbers.proofs.number.Goals as goal

pub loop-i-init : goal.loop-i-init
loop-i-init c = (counting_none _ _ c.requires.1, refl)

pub overflow_cast-starts : goal.overflow_cast-starts
overflow_cast-starts c = omega (arith, c.loop-i-test.true, c.loop-i.invariant.0.few, classed-few c.requires.0)

pub overflow_add-total : goal.overflow_add-total
overflow_add-total c =
    omega (arith, c.loop-i-test.true, c.loop-i.invariant.0.few, classed-few c.requires.0, count-few _ _ c.count-total.ensures)

pub loop-i-preserved : goal.loop-i-preserved
loop-i-preserved c =
    let q = c.loop-i.invariant in
    (counting_more c.requires.0 q.0 c.loop-i-test.true c.kind.ensures c.count-total.ensures, simp length-set q.1)

pub returns : goal.returns
returns c = counting_all c.loop-i.invariant.0 c.loop-i-test.false
