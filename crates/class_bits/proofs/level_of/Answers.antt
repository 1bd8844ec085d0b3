use native.Mathlib.Omega.{arith}
use mathlib.Core.Path.{sym, ◌∙◌}
use borrow.Author.Rules.{rules}
use Rattle.class_bits.proofs.level_of.Goals as goal

pub returns-then-bit_of : goal.returns-then-bit_of
returns-then-bit_of c = (rw (sym c.bit_of.ensures ∙ c.if-bit_of.true), omega arith)

pub returns-then-bit_of-2 : goal.returns-then-bit_of-2
returns-then-bit_of-2 c = (rw (sym c.bit_of.ensures ∙ c.if-bit_of.false, sym c.bit_of-2.ensures ∙ c.if-bit_of-2.true), omega arith)

pub returns : goal.returns
returns c = (rw (sym c.bit_of.ensures ∙ c.if-bit_of.false, sym c.bit_of-2.ensures ∙ c.if-bit_of-2.false), omega arith)
