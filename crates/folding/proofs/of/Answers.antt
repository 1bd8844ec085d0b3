-- The slot of the word is that of what its operands make of it.
use Rattle.folding.proofs.Told.{told}
use Rattle.folding.proofs.of.Goals as goal

pub returns-in-Some-Left : goal.returns-in-Some-Left
returns-in-Some-Left c =
    told c.args.s c.args.folded.now c.left.ensures c.right.ensures c.slot_at-a.ensures c.slot_at-b.ensures c.kind.ensures c.kind-2.ensures c.kind-3.ensures
    (rw c.in-Some-Left.field-0-is at c.in-Some-Left.ensures)

pub returns-in-Some-Right : goal.returns-in-Some-Right
returns-in-Some-Right c =
    told c.args.s c.args.folded.now c.left.ensures c.right.ensures c.slot_at-a.ensures c.slot_at-b.ensures c.kind.ensures c.kind-2.ensures c.kind-3.ensures
    (rw c.in-Some-Right.field-0-is at c.in-Some-Right.ensures)

pub returns-in-None : goal.returns-in-None
returns-in-None c =
    told c.args.s c.args.folded.now c.left.ensures c.right.ensures c.slot_at-a.ensures c.slot_at-b.ensures c.kind.ensures c.kind-2.ensures c.kind-3.ensures
    c.in-None.ensures
