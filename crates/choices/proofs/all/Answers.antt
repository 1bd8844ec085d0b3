use Rattle.std.proofs.Common.{◌≡◌, ◌+◌, ◌-◌, arith}
use Rattle.transforms.specs.NormalForm.{choices}
use Rattle.true_parts.proofs.Looks.{shifted}
use Rattle.choices.proofs.ChoiceOrder.{none_grown, next_grown, row-grown, all_summed, full_summed}
use Rattle.choices.proofs.all.Goals as goal

pub loop-ones-init : goal.loop-ones-init
loop-ones-init c = let q = c.requires.joinable in record { laid = q.ready.fillable.laid; grown = none_grown c.args.table.now c.args.bits q.numbered }

pub returns-in_err-sum : goal.returns-in_err-sum
unfolding choices
returns-in_err-sum c =
    let q = c.requires.by_index in
    let inv = c.loop-choice.invariant in
    rw c.from_residual.ensures (full_summed c.args.table.now c.args.bits q.0 _ _ _ c.loop-ones.ones (c.loop-choice.choice - 1) (shifted c.args.bits q.1) (omega arith) (omega arith)
    (next_grown c.args.table.now c.args.bits _ c.loop-ones.ones c.loop-choice.choice c.loop-choice-test.true (omega arith) inv.grown c.in_err-sum.ensures.grown))

pub loop-choice-preserved : goal.loop-choice-preserved
loop-choice-preserved c =
    let done = c.in_ok-sum.ensures in
    record {
      laid = done.laid;
      grown = next_grown c.args.table.now c.args.bits _ c.loop-ones.ones c.loop-choice.choice c.loop-choice-test.true (omega arith) c.loop-choice.invariant.grown done.grown;
    }

pub loop-ones-preserved : goal.loop-ones-preserved
loop-ones-preserved c =
    let inv = c.loop-choice.invariant in
    let none : c.loop-choice.choice ≡ 0 = omega arith in
    record {
      laid = inv.laid;
      grown = row-grown c.args.table.now c.args.bits _ c.loop-ones.ones (shifted c.args.bits c.requires.by_index.1) (rw none at inv.grown);
    }

pub returns-2 : goal.returns-2
unfolding choices
returns-2 c =
    let inv = c.loop-choice.invariant in
    let none : c.loop-choice.choice ≡ 0 = omega arith in
    all_summed c.args.table.now c.args.bits (c.loop-ones.ones + 1) (omega arith)
    (row-grown c.args.table.now c.args.bits _ c.loop-ones.ones (shifted c.args.bits c.requires.by_index.1) (rw none at inv.grown))
