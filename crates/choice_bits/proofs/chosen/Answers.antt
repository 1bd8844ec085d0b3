-- A bit is what a shift by its position leaves lowest.
use Prim.Native.Nat.{ℕ, ◌/◌, ◌^◌}
use native.Mathlib.Omega.{arith}
use mathlib.Core.Path.{ap}
use lib.Bits.{and_mask}
use lib.Dec.{eqb}
use lib.ListN.{get_or}
use Rattle.logic.specs.Bit.{bit}
use Rattle.choice_bits.proofs.chosen.Goals as goal

pub bounds-positions-j : goal.bounds-positions-j
bounds-positions-j c = c.requires.0

pub overflow_cast-result : goal.overflow_cast-result
overflow_cast-result c = omega (arith, c.requires.1)

pub overflow_shr-result : goal.overflow_shr-result
overflow_shr-result c = c.requires.1

pub returns : goal.returns
unfolding bit
returns c = ap (λ (n : ℕ). eqb n 1) (and_mask (c.args.choice / 2 ^ get_or c.args.positions.now c.args.j 0) 1)
