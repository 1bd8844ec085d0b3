use borrow.Author.Rules.{rules}
use Rattle.class_bits.proofs.in_second.Goals as goal

pub returns-then-pi : goal.returns-then-pi
returns-then-pi c = rw c.if-pi.true c.bit_of.ensures

pub returns : goal.returns
returns c = rw c.if-pi.false c.bit_of-2.ensures
