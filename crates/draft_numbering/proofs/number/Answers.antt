-- Where the root has a number, it is that of its formula. Otherwise a turn pushes what the top of the stack needs next, or places its word.
use Rattle.std.proofs.Common.{◌-◌, ◌<◌, length, get_or, refl, sym, arith}
use Rattle.std.proofs.Math.ListN.{length-set}
use Rattle.placing.proofs.Placing.{placing_again}
use Rattle.draft_numbering.proofs.Room.{zero_of, above_one, low, popped}
use Rattle.draft_numbering.proofs.Zeros.{zeros-set}
use Rattle.draft_numbering.proofs.Going.{going_start, going_push, going-full, going_done, going_pop, going-low, going_none, going_turnable, going-earlier, root_within}
use Rattle.draft_numbering.proofs.number.Goals as goal

pub offset_bounds-numbers-root : goal.offset_bounds-numbers-root
offset_bounds-numbers-root c = omega (arith, root_within c.requires.numberable)

pub bounds-numbers-root : goal.bounds-numbers-root
bounds-numbers-root c = omega (arith, root_within c.requires.numberable)

pub returns-then-known-gt0 : goal.returns-then-known-gt0
returns-then-known-gt0 c =
    let pre = c.requires.numberable in (
      c.if-known-gt0.true,
      record {
        placed = λ φ f. placing_again φ _ c.requires.numbered (pre.remembered.held _ φ f c.if-known-gt0.true);
        remembered = λ l. pre.remembered;
      },
    )

pub overflow_cast-stack : goal.overflow_cast-stack
overflow_cast-stack c = omega (arith, root_within c.requires.numberable)

pub bounds-stack-0 : goal.bounds-stack-0
bounds-stack-0 c = omega (arith, root_within c.requires.numberable)

pub loop-i-init : goal.loop-i-init
loop-i-init c =
    let pre = c.requires.numberable in
    let inside = root_within pre in
    let g = going_start {root = c.args.root} c.args.stack.now c.requires.numbered pre.remembered (omega (arith, inside)) (zero_of c.if-known-gt0.false) in
    record { inside = inside; low = going-low pre.few g pre.formula pre.drafted; going = g }

pub next-requires : goal.next-requires
next-requires c =
    let pre = c.requires.numberable in
    going_turnable pre.few c.loop-i.invariant.going pre.formula pre.drafted (omega arith)

pub overflow_cast-stack-in-Operand : goal.overflow_cast-stack-in-Operand
overflow_cast-stack-in-Operand c =
    let pre = c.requires.numberable in
    let lower = going-earlier pre.few c.loop-i.invariant.going pre.formula pre.drafted c.in-Operand.i (sym c.in-Operand.ensures) in
    omega arith

pub bounds-stack-height-in-Operand : goal.bounds-stack-height-in-Operand
bounds-stack-height-in-Operand c =
    let pre = c.requires.numberable in
    let lower = going-earlier pre.few c.loop-i.invariant.going pre.formula pre.drafted c.in-Operand.i (sym c.in-Operand.ensures) in
    omega (arith, length-set c.args.stack.now 0 c.args.root)

pub loop-i-preserved-in-Operand : goal.loop-i-preserved-in-Operand
loop-i-preserved-in-Operand c =
    let pre = c.requires.numberable in
    let inv = c.loop-i.invariant in
    let j = c.in-Operand.i in
    let turned = sym c.in-Operand.ensures in
    let lower = going-earlier pre.few inv.going pre.formula pre.drafted j turned in
    let higher : c.loop-i.height < length c.loop-i.stack = omega (arith, length-set c.args.stack.now 0 c.args.root) in
    let g = going_push pre.few inv.going pre.formula pre.drafted j higher turned in
    record { inside = inv.inside; low = going-low pre.few g pre.formula pre.drafted; going = g }

pub returns-in_err-n-in-Word : goal.returns-in_err-n-in-Word
returns-in_err-n-in-Word c =
    let inv = c.loop-i.invariant in
    let within : get_or c.loop-i.stack (c.loop-i.height - 1) 0 < length c.loop-i.numbers = omega (arith, inv.going.some) in
    rw c.from_residual.ensures (going-full c.requires.numberable.few inv.going _ within (sym c.in-Word.ensures) c.in_err-n-in-Word.ensures c.loop-i.numbers refl)

pub returns-then-height-eq1 : goal.returns-then-height-eq1
returns-then-height-eq1 c =
    let inv = c.loop-i.invariant in
    let within : get_or c.loop-i.stack (c.loop-i.height - 1) 0 < length c.loop-i.numbers = omega (arith, inv.going.some) in
    let put = c.in_ok-n-in-Word.ensures in
    (put.0, going_done c.requires.numberable.few inv.going _ within (sym c.in-Word.ensures) put.1 put.0 c.if-height-eq1.true)

pub loop-i-smaller : goal.loop-i-smaller
loop-i-smaller c =
    let pre = c.requires.numberable in
    let inv = c.loop-i.invariant in
    let within : get_or c.loop-i.stack (c.loop-i.height - 1) 0 < length c.loop-i.numbers = omega (arith, inv.going.some) in
    let none = going_none pre.few inv.going pre.formula pre.drafted in
    popped (low c.args.root inv.going.some inv.low inv.inside)
    (zeros-set c.loop-i.numbers (get_or c.loop-i.stack (c.loop-i.height - 1) 0) c.in_ok-n-in-Word.n within none c.in_ok-n-in-Word.ensures.0)

pub loop-i-preserved : goal.loop-i-preserved
loop-i-preserved c =
    let pre = c.requires.numberable in
    let inv = c.loop-i.invariant in
    let within : get_or c.loop-i.stack (c.loop-i.height - 1) 0 < length c.loop-i.numbers = omega (arith, inv.going.some) in
    let put = c.in_ok-n-in-Word.ensures in
    let g = going_pop pre.few inv.going _ within (sym c.in-Word.ensures) put.1 put.0 (above_one inv.going.some c.if-height-eq1.false) in
    record { inside = inv.inside; low = going-low pre.few g pre.formula pre.drafted; going = g }
