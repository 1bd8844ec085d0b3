use borrow.Author.Rules.{rules}
use native.Mathlib.Omega.{arith}
use borrow.Author.Tests.{eq-eqb, ne_eqb}
use Rattle.move_roots.proofs.root.Goals as goal

pub returns-in-1 : goal.returns-in-1
returns-in-1 c = rw (eq-eqb _ 1 c.in-1.is)

pub returns-in-2 : goal.returns-in-2
returns-in-2 c = rw c.in-2.is

pub returns-in_default : goal.returns-in_default
returns-in_default c = rw (ne_eqb c.args.class 1 (omega arith), ne_eqb c.args.class 2 (omega arith))
