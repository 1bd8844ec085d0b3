-- Four samples, and above them four more.
use Prim.Native.Nat.{◌<◌, ◌^◌}
use native.Mathlib.Omega.{arith}
use Rattle.letter_bits.proofs.Packed.{pack-append, pack_room}
use Rattle.letter_bits.proofs.eight.Goals as goal

pub overflow_mul-result : goal.overflow_mul-result
overflow_mul-result c = let small : c.four-2.result < 2 ^ 4 = rw c.four-2.ensures (pack_room _ _ 4 4 (omega arith)) in omega arith

pub overflow_add-result : goal.overflow_add-result
overflow_add-result c =
    let low : c.four.result < 2 ^ 4 = rw c.four.ensures (pack_room _ _ 4 4 (omega arith)) in
    let high : c.four-2.result < 2 ^ 4 = rw c.four-2.ensures (pack_room _ _ 4 4 (omega arith)) in
    omega arith

pub returns : goal.returns
returns c = omega (arith, pack-append _ _ _ 4 4 8 _ _ (omega arith) (omega arith) c.four-2.ensures c.four.ensures)
