use mathlib.Core.Path.{ap₂, ◌∙◌}
use Prim.Native.Nat.{◌<◌, ◌^◌}
use native.Mathlib.Omega.{arith}
use Rattle.row_words.specs.Row.{pack_bits}
use Rattle.letter_bits.proofs.Packed.{pack-append, pack_room}
use Rattle.letter_rows.proofs.by_eights.Goals as goal

pub loop-k-init : goal.loop-k-init
loop-k-init c = c.one_by_one-word.ensures ∙ ap₂ (pack_bits _) (omega arith) (omega arith)

pub overflow_mul-word : goal.overflow_mul-word
overflow_mul-word c =
    let small : c.loop-k.word < 2 ^ 56 = rw c.loop-k.invariant (pack_room _ _ _ 56 (omega arith)) in
    omega (arith, small)

pub overflow_add-word : goal.overflow_add-word
overflow_add-word c =
    let small : c.loop-k.word < 2 ^ 56 = rw c.loop-k.invariant (pack_room _ _ _ 56 (omega arith)) in
    let low : c.eight.result < 2 ^ 8 = rw c.eight.ensures (pack_room _ _ 8 8 (omega arith)) in
    omega (arith, small)

pub loop-k-preserved : goal.loop-k-preserved
loop-k-preserved c =
    let l = c.loop-k in
    pack-append _ _ _ 8 _ _ _ _ (omega arith) (omega arith) l.invariant c.eight.ensures

pub returns : goal.returns
returns c =
    let l = c.loop-k in
    l.invariant ∙ ap₂ (pack_bits _) (omega arith) (omega arith)
