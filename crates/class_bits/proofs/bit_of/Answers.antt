use Prim.Native.Nat.{ℕ, ◌/◌, ◌^◌}
use mathlib.Core.Path.{ap}
use lib.Bits.{and_mask}
use lib.Dec.{eqb}
use borrow.Author.Rules.{rules}
use Rattle.logic.specs.Bit.{bit}
use Rattle.class_bits.proofs.bit_of.Goals as goal

pub returns : goal.returns
unfolding bit
returns c = ap (λ (n : ℕ). eqb n 1) (and_mask (c.args.byte / 2 ^ c.args.k) 1)
