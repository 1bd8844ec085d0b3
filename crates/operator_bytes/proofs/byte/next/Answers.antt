use native.Mathlib.Omega.{arith}
use lib.Bits.{and_le_r}
use Rattle.logic.specs.ClassStep.{next_byte}
use Rattle.operator_bytes.proofs.byte.next.Goals as goal

pub with_delta-requires : goal.with_delta-requires
with_delta-requires c = omega (arith, and_le_r c.args.a 0x36)

pub returns : goal.returns
unfolding next_byte
returns c = c.with_delta.ensures
