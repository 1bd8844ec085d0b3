-- A bit is what a shift by its place leaves lowest.
use Prim.Native.Nat.{◌/◌, ◌^◌}
use native.Mathlib.Omega.{arith}
use mathlib.Core.Path.{◌∙◌}
use lib.Bits.{and_mask}
use borrow.Author.Rules.{rules}
use Rattle.state_classes.proofs.Smallest.{digit_is}
use Rattle.state_classes.proofs.digit.Goals as goal

pub overflow_cast-result : goal.overflow_cast-result
overflow_cast-result c = search rules

pub overflow_shr-result : goal.overflow_shr-result
overflow_shr-result c = search rules

pub overflow_cast-result-2 : goal.overflow_cast-result-2
overflow_cast-result-2 c = omega (arith, and_mask (c.args.byte / 2 ^ c.args.k) 1)

pub returns : goal.returns
returns c = and_mask (c.args.byte / 2 ^ c.args.k) 1 ∙ digit_is c.args.byte c.args.k
