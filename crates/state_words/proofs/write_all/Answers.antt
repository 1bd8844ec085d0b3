use native.Mathlib.Omega.{arith}
use Rattle.state_numbers.proofs.Counting.{classed-few}
use Rattle.state_words.proofs.Stating.{put-few, stating_none, stating_more, stating_all}
use Rattle.state_words.proofs.write_all.Goals as goal

pub loop-i-init : goal.loop-i-init
loop-i-init c = stating_none _ _

pub put-made-requires : goal.put-made-requires
put-made-requires c =
    let few = classed-few c.requires in
    (omega (arith, c.loop-i-test.true), omega (arith, c.loop-i-test.true, c.loop-i.invariant.few))

pub overflow_add-made : goal.overflow_add-made
overflow_add-made c =
    omega (arith, put-few c.put-made.ensures, c.loop-i-test.true, c.loop-i.invariant.few, classed-few c.requires)

pub loop-i-preserved : goal.loop-i-preserved
loop-i-preserved c =
    stating_more c.requires c.loop-i.invariant c.loop-i-test.true c.kind.ensures c.put-made.ensures

pub returns : goal.returns
returns c = stating_all c.loop-i.invariant c.loop-i-test.false
