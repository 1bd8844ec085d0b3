use Prim.Native.Nat.{◌*◌, ◌%◌}
use mathlib.Core.Path.{◌≡◌}
use native.Mathlib.Omega.{arith}
use Rattle.logic.specs.ClassStep.{with_delta}
use Rattle.operator_bytes.proofs.byte.with_delta.Goals as goal

-- the shifts lose no bit
pub returns : goal.returns
unfolding with_delta
returns c =
    let four : c.args.k * 4 % 256 ≡ c.args.k * 4 = omega arith in
    let two : c.args.k * 2 % 256 ≡ c.args.k * 2 = omega arith in
    rw (four, two)
