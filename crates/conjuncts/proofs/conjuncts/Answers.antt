use Rattle.std.proofs.Common.{arith}
use Rattle.conjuncts.proofs.Conjoining.{joining_none, joining_other, joining_left, joining_room, joining_taken, joining_all}
use Rattle.fixpoints.proofs.Positions.{kept_small}
use Rattle.conjuncts.proofs.conjuncts.Goals as goal
use Rattle.conjuncts.proofs.conjuncts.Goals.{then-is+then-chosen, else-is, else-is-via-then-is+else-chosen, else-is-via-else-is}

pub loop-i-init : goal.loop-i-init
loop-i-init c = joining_none c.requires

pub chosen-requires : goal.chosen-requires
chosen-requires c =
    let q = c.requires.kept in
    let h = c.loop-i-test.true in
    (omega (arith, h, q.long), kept_small q _ h)

pub conjoin-next-requires : goal.conjoin-next-requires
conjoin-next-requires c = joining_room c.requires c.loop-i.invariant c.loop-i-test.true c.is.ensures c.if-is.true c.chosen.ensures c.if-chosen.true

pub loop-i-preserved : goal.loop-i-preserved
loop-i-preserved c =
    let q = c.requires in
    let s = c.loop-i.invariant in
    let h = c.loop-i-test.true in
    let g = c.is.ensures in
    elim c.if-is.branch [
      | then-is+then-chosen x ↦ rw (x.draft-is, x.next-is) (joining_taken q s h g x.if-is.true x.chosen.ensures x.if-chosen.true x.conjoin-next.ensures)
      | else-is x ↦ rw (x.draft-is, x.next-is) (elim x.else-is.branch [
        | else-is-via-then-is+else-chosen y ↦ joining_left q s h g y.if-is.true y.chosen.ensures y.if-chosen.false
        | else-is-via-else-is y ↦ joining_other q s h g y.if-is.false
      ])
    ]

pub returns : goal.returns
returns c = joining_all c.requires c.loop-i.invariant c.loop-i-test.false
