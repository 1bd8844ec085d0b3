-- Each arm's law is one of Forming, whose premises are what the calls on the way ensure.
use Rattle.std.proofs.Common.{true, false, rules}
use Rattle.logic.specs.Formula.{implies}
use Rattle.plain_draft.proofs.Filling.{asked_after, earlier-falls, asked-earlier}
use Rattle.plain_draft.proofs.Forming.{right_earlier, not_earlier, left_binary, left_operator, not_formed, Ready, ready_at, leaf-ready, next_ready, finally-ready, globally-ready, implies-ready, operator-ready}
use Rattle.plain_draft.proofs.Shapes.{IsOperator}
use Rattle.plain_draft.proofs.+denied_wanted.Goals as goal
use Rattle.plain_draft.proofs.+denied_wanted.Goals.{denied-then-kind-gt4+in-7, denied-then-kind-gt4+in-13, denied-then-kind-gt4+in-14, denied-then-kind-gt4+in-15, denied-then-kind-gt4+in_default, denied-else-kind-gt4, wanted-then-kind-gt4+in-7, wanted-then-kind-gt4+in-13, wanted-then-kind-gt4+in-14, wanted-then-kind-gt4+in-15, wanted-then-kind-gt4+in_default, wanted-else-kind-gt4}

-- the operands of all but not, the right one first
pub denied-denied-b-requires : goal.denied-denied-b-requires
denied-denied-b-requires t c = let e = right_earlier c.read-w.ensures c.if-kind-gt4.true in (earlier-falls e c.decreases, asked-earlier c.requires e)

pub denied-wanted-a-requires : goal.denied-wanted-a-requires
denied-wanted-a-requires t c = let e = left_binary implies c.read-w.ensures c.in-15.is in (earlier-falls e c.decreases, asked_after c.denied-b.ensures c.requires e)

pub denied-denied-a-requires : goal.denied-denied-a-requires
denied-denied-a-requires t c =
    let o : IsOperator c.read-w.result.kind = search rules in
    let e = left_operator c.read-w.ensures o in
    (earlier-falls e c.decreases, asked_after c.denied-b.ensures c.requires e)

-- the operand of not
pub denied-wanted-requires : goal.denied-wanted-requires
denied-wanted-requires t c = let e = not_earlier c.read-w.ensures c.if-kind-ne12.false in (earlier-falls e c.decreases, asked-earlier c.requires e)

pub denied-returns-else-kind-ne12 : goal.denied-returns-else-kind-ne12
denied-returns-else-kind-ne12 t c = not_formed c.requires c.read-w.ensures c.if-draft-slot-ne0.false c.if-kind-ne12.false c.wanted.ensures

-- their slot, or that of a constant or a letter
pub denied-returns : goal.denied-returns
denied-returns t c =
    let ready : Ready false c.args.table.now c.args.j c.read-w.result.kind c.args.draft.now c.if-kind-gt4.draft c.if-kind-gt4.a c.if-kind-gt4.b = elim c.if-kind-gt4.branch [
      | denied-then-kind-gt4+in-7 w ↦ ready_at w.draft-is w.a-is w.b-is (next_ready c.requires c.read-w.ensures c.if-draft-slot-ne0.false w.in-7.is w.denied-b.ensures)
      | denied-then-kind-gt4+in-13 w ↦ ready_at w.draft-is w.a-is w.b-is (finally-ready c.requires c.read-w.ensures c.if-draft-slot-ne0.false w.in-13.is w.denied-b.ensures)
      | denied-then-kind-gt4+in-14 w ↦ ready_at w.draft-is w.a-is w.b-is (globally-ready c.requires c.read-w.ensures c.if-draft-slot-ne0.false w.in-14.is w.denied-b.ensures)
      | denied-then-kind-gt4+in-15 w ↦ ready_at w.draft-is w.a-is w.b-is (implies-ready c.requires c.read-w.ensures c.if-draft-slot-ne0.false w.in-15.is w.denied-b.ensures w.wanted-a.ensures)
      | denied-then-kind-gt4+in_default w ↦ ready_at w.draft-is w.a-is w.b-is (operator-ready c.requires c.read-w.ensures c.if-draft-slot-ne0.false (search rules) w.denied-b.ensures w.denied-a.ensures)
      | denied-else-kind-gt4 w ↦ ready_at w.draft-is w.a-is w.b-is (leaf-ready c.requires c.read-w.ensures c.if-draft-slot-ne0.false w.if-kind-gt4.false)
    ] in
    ready.formed c.dual.ensures.0 c.store.ensures

-- the operands of all but not, the right one first
pub wanted-wanted-b-requires : goal.wanted-wanted-b-requires
wanted-wanted-b-requires t c = let e = right_earlier c.read-w.ensures c.if-kind-gt4.true in (earlier-falls e c.decreases, asked-earlier c.requires e)

pub wanted-denied-a-requires : goal.wanted-denied-a-requires
wanted-denied-a-requires t c = let e = left_binary implies c.read-w.ensures c.in-15.is in (earlier-falls e c.decreases, asked_after c.wanted-b.ensures c.requires e)

pub wanted-wanted-a-requires : goal.wanted-wanted-a-requires
wanted-wanted-a-requires t c =
    let o : IsOperator c.read-w.result.kind = search rules in
    let e = left_operator c.read-w.ensures o in
    (earlier-falls e c.decreases, asked_after c.wanted-b.ensures c.requires e)

-- the operand of not
pub wanted-denied-requires : goal.wanted-denied-requires
wanted-denied-requires t c = let e = not_earlier c.read-w.ensures c.if-kind-ne12.false in (earlier-falls e c.decreases, asked-earlier c.requires e)

pub wanted-returns-else-kind-ne12 : goal.wanted-returns-else-kind-ne12
wanted-returns-else-kind-ne12 t c = not_formed c.requires c.read-w.ensures c.if-draft-slot-ne0.false c.if-kind-ne12.false c.denied.ensures

-- their slot, or that of a constant or a letter
pub wanted-returns : goal.wanted-returns
wanted-returns t c =
    let ready : Ready true c.args.table.now c.args.j c.read-w.result.kind c.args.draft.now c.if-kind-gt4.draft c.if-kind-gt4.a c.if-kind-gt4.b = elim c.if-kind-gt4.branch [
      | wanted-then-kind-gt4+in-7 w ↦ ready_at w.draft-is w.a-is w.b-is (next_ready c.requires c.read-w.ensures c.if-draft-slot-ne0.false w.in-7.is w.wanted-b.ensures)
      | wanted-then-kind-gt4+in-13 w ↦ ready_at w.draft-is w.a-is w.b-is (finally-ready c.requires c.read-w.ensures c.if-draft-slot-ne0.false w.in-13.is w.wanted-b.ensures)
      | wanted-then-kind-gt4+in-14 w ↦ ready_at w.draft-is w.a-is w.b-is (globally-ready c.requires c.read-w.ensures c.if-draft-slot-ne0.false w.in-14.is w.wanted-b.ensures)
      | wanted-then-kind-gt4+in-15 w ↦ ready_at w.draft-is w.a-is w.b-is (implies-ready c.requires c.read-w.ensures c.if-draft-slot-ne0.false w.in-15.is w.wanted-b.ensures w.denied-a.ensures)
      | wanted-then-kind-gt4+in_default w ↦ ready_at w.draft-is w.a-is w.b-is (operator-ready c.requires c.read-w.ensures c.if-draft-slot-ne0.false (search rules) w.wanted-b.ensures w.wanted-a.ensures)
      | wanted-else-kind-gt4 w ↦ ready_at w.draft-is w.a-is w.b-is (leaf-ready c.requires c.read-w.ensures c.if-draft-slot-ne0.false w.if-kind-gt4.false)
    ] in
    ready.formed c.plain.ensures.0 c.store.ensures
