-- Each operator's connectives; a constant and a letter read nothing.
use mathlib.Core.Path.{ap}
use mathlib.Core.Logic.{inl, inr}
use Rattle.operators.specs.Looped.{does}
use Rattle.operand_rows.proofs.prepare.Goals as goal

pub load-requires : goal.load-requires
load-requires c = record { row_for = c.requires.row_for.0; standing = c.requires.standing _ (ap does c.in-Each.is) }

pub load-requires-in-Next : goal.load-requires-in-Next
load-requires-in-Next c = record { row_for = c.requires.row_for.0; standing = c.requires.standing _ (ap does c.in-Next.is) }

pub load_both-requires : goal.load_both-requires
load_both-requires c = record { row_for = c.requires.row_for; standing = c.requires.standing _ (ap does c.in-Fixpoint.is) }

pub returns-in-Constant : goal.returns-in-Constant
returns-in-Constant c f g h = elim c.in-Constant.is [ inl w ↦ rw w.1 tt | inr w ↦ rw w.1 tt ]

pub returns-in-Each : goal.returns-in-Each
returns-in-Each c f g h =
    let told = c.in-Each.is in
    let read = h _ (ap does told) in
    rw told (c.load.ensures f g read.0 read.1)

pub returns-in-Next : goal.returns-in-Next
returns-in-Next c f g h =
    let told = c.in-Next.is in
    let read = h _ (ap does told) in
    rw told (c.load-in-Next.ensures f g read.0 read.1)

pub returns-in-Fixpoint : goal.returns-in-Fixpoint
returns-in-Fixpoint c f g h =
    let told = c.in-Fixpoint.is in
    let read = h _ (ap does told) in
    rw told (c.load_both.ensures f g read.0 read.1)
