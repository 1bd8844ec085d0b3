-- The ranges of the match are those of the law on the sixteen kinds.
use Rattle.std.proofs.Common.{arith}
use Rattle.std.proofs.lemmas.Bool.Decides.{nat_tests}
use Rattle.slot_turns.proofs.Arity.{arity-by_range}
use Rattle.slot_turns.proofs.operands.Goals as goal

pub returns-in-1-to-4 : goal.returns-in-1-to-4
returns-in-1-to-4 c = rw (arity-by_range c.args.kind c.requires.1) (grind (arith, nat_tests))

pub returns-in_default-2 : goal.returns-in_default-2
returns-in_default-2 c = rw (arity-by_range c.args.kind c.requires.1) (grind (arith, nat_tests))

pub returns-in_default-3 : goal.returns-in_default-3
returns-in_default-3 c = rw (arity-by_range c.args.kind c.requires.1) (grind (arith, nat_tests))

pub returns-in-7 : goal.returns-in-7
returns-in-7 c = rw (arity-by_range c.args.kind c.requires.1) (grind (arith, nat_tests))

pub returns-in-7-2 : goal.returns-in-7-2
returns-in-7-2 c = rw (arity-by_range c.args.kind c.requires.1) (grind (arith, nat_tests))
