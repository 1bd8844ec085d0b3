use native.Mathlib.Omega.{arith}
use Rattle.row_words.proofs.Rows.{inner_next, last_next, written_none, written_last, written-up}
use Rattle.rows.proofs.shift_words.Goals as goal

pub loop-w-init : goal.loop-w-init
loop-w-init c = λ A e. written_none (omega arith)

pub loop-w-preserved : goal.loop-w-preserved
loop-w-preserved c =
    let l = c.loop-w in
    λ A e. written-up (l.invariant A e) (omega arith) (inner_next _ A _ _ e l.w _ (omega arith) c.shift.ensures)

pub returns : goal.returns
returns c A e =
    let l = c.loop-w in
    let end = c.args.end in
    written_last (l.invariant A e) (omega arith) (omega arith) (omega arith)
    (last_next _ A _ end e _ _ _ (omega arith) (omega arith) c.filled.ensures (rw c.from.ensures at c.shift-2.ensures))
