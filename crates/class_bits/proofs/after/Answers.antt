use native.Mathlib.Omega.{arith}
use borrow.Author.Rules.{rules}
use Rattle.class_bits.proofs.after.Goals as goal

pub returns-then-sigma : goal.returns-then-sigma
returns-then-sigma c = (rw c.if-sigma.true, omega arith)

pub returns : goal.returns
returns c = (rw c.if-sigma.false, omega arith)
