-- Each kind's operator is what the kind stands for; those that are left stand for false, or for nothing.
use borrow.Author.Rules.{rules}
use Rattle.table.specs.Node.{shape}
use Rattle.operators.proofs.LeftOver.{left_over}
use Rattle.operators.proofs.operator.of_kind.Goals as goal

pub returns-in-2 : goal.returns-in-2
unfolding shape
returns-in-2 c = rw c.in-2.is

pub returns-in-3 : goal.returns-in-3
unfolding shape
returns-in-3 c = rw c.in-3.is

pub returns-in-4 : goal.returns-in-4
unfolding shape
returns-in-4 c = rw c.in-4.is

pub returns-in-5 : goal.returns-in-5
unfolding shape
returns-in-5 c = rw c.in-5.is

pub returns-in-6 : goal.returns-in-6
unfolding shape
returns-in-6 c = rw c.in-6.is

pub returns-in-7 : goal.returns-in-7
unfolding shape
returns-in-7 c = rw c.in-7.is

pub returns-in-8 : goal.returns-in-8
unfolding shape
returns-in-8 c = rw (c.fixpoint.ensures, c.in-8.is)

pub returns-in-9 : goal.returns-in-9
unfolding shape
returns-in-9 c = rw (c.fixpoint-in-9.ensures, c.in-9.is)

pub returns-in-10 : goal.returns-in-10
unfolding shape
returns-in-10 c = rw (c.fixpoint-in-10.ensures, c.in-10.is)

pub returns-in-11 : goal.returns-in-11
unfolding shape
returns-in-11 c = rw (c.fixpoint-in-11.ensures, c.in-11.is)

pub returns-in-12 : goal.returns-in-12
unfolding shape
returns-in-12 c = rw c.in-12.is

pub returns-in-13 : goal.returns-in-13
unfolding shape
returns-in-13 c = rw (c.fixpoint-in-13.ensures, c.in-13.is)

pub returns-in-14 : goal.returns-in-14
unfolding shape
returns-in-14 c = rw (c.fixpoint-in-14.ensures, c.in-14.is)

pub returns-in-15 : goal.returns-in-15
unfolding shape
returns-in-15 c = rw c.in-15.is

pub returns-in_default : goal.returns-in_default
returns-in_default c = left_over _ c.in_default.in_default-own.rest
