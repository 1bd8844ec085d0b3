-- Sigma's bit where it is set, or else Pi's, and then Pi's.
use native.Mathlib.Omega.{arith}
use borrow.Author.Rules.{rules}
use Rattle.logic.specs.Bit.{bit}
use Rattle.state_classes.proofs.Smallest.{level_small, smallest-few, one_digit, read_at}
use Rattle.state_classes.proofs.class_at.Goals as goal

pub overflow_add-result : goal.overflow_add-result
overflow_add-result c = omega (arith, level_small c.args.byte, smallest-few c.args.byte)

pub overflow_add-result-2 : goal.overflow_add-result-2
overflow_add-result-2 c = omega (arith, level_small c.args.byte, smallest-few c.args.byte)

pub digit-requires : goal.digit-requires
digit-requires c = omega (arith, level_small c.args.byte)

pub overflow_sub-result : goal.overflow_sub-result
overflow_sub-result c = omega (arith, c.digit.ensures, one_digit (bit c.args.byte c.level-sigma.result))

pub returns : goal.returns
returns c = let a = c.args in read_at a.byte c.level-sigma.ensures c.digit.ensures a.k c.requires
