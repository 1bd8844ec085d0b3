use mathlib.Core.Path.{ap, ◌∙◌}
use native.Mathlib.Omega.{arith}
use lib.Bits.{bit_and}
use Rattle.logic.specs.ClassStep.{with_delta, least_byte}
use Rattle.operator_bytes.proofs.Shifts.{moved, joined_lt}
use Rattle.operator_bytes.proofs.byte.least.Goals as goal

pub with_delta-requires : goal.with_delta-requires
with_delta-requires c = joined_lt (bit_and c.args.a c.args.b) 0x12 0x02 16 (omega arith) (omega arith)

pub returns : goal.returns
unfolding least_byte
returns c = c.with_delta.ensures ∙ ap with_delta (moved (bit_and c.args.a c.args.b) 0x12 0x02 16 (omega arith) (omega arith))
