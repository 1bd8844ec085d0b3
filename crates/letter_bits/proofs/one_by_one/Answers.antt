use mathlib.Core.Path.{ap₂, ◌∙◌}
use Prim.Native.Nat.{◌<◌, ◌^◌}
use native.Mathlib.Omega.{arith}
use Rattle.row_words.specs.Row.{pack_bits}
use Rattle.letter_bits.proofs.Packed.{pack_none, pack_more, pack_room}
use Rattle.letter_bits.proofs.one_by_one.Goals as goal

pub loop-i-init : goal.loop-i-init
loop-i-init c = pack_none _ _ _ (omega arith)

pub overflow_mul-word : goal.overflow_mul-word
overflow_mul-word c =
    let small : c.loop-i.word < 2 ^ 63 = rw c.loop-i.invariant (pack_room _ _ _ 63 (omega arith)) in
    omega (arith, small)

pub overflow_add-word : goal.overflow_add-word
overflow_add-word c =
    let small : c.loop-i.word < 2 ^ 63 = rw c.loop-i.invariant (pack_room _ _ _ 63 (omega arith)) in
    omega (arith, small)

pub loop-i-preserved : goal.loop-i-preserved
loop-i-preserved c =
    let l = c.loop-i in
    pack_more _ _ _ _ _ _ _ (omega arith) (omega arith) l.invariant c.letter_bit.ensures.0

pub returns : goal.returns
returns c =
    let l = c.loop-i in
    l.invariant ∙ ap₂ (pack_bits _) (omega arith) (omega arith)
