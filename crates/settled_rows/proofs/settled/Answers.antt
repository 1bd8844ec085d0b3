use mathlib.Core.Path.{◌≡◌, refl, ap, subst}
use mathlib.Core.Bool.{◌&&◌, ◌||◌}
use Prim.Native.Nat.{ℕ, ◌-◌}
use native.Mathlib.Omega.{arith}
use lib.ListN.{length, get_or}
use Rattle.row_words.specs.Row as rows
use Rattle.row_words.proofs.Rows.{in_row, inner_next, last_next}
use Rattle.row_words.proofs.Compared.{Tells, tells_none, tells_next, rows_told}
use Rattle.settled_rows.proofs.Stepped.{step_word}
use Rattle.settled_rows.proofs.settled.Invariants.{over, stepped}
use Rattle.settled_rows.proofs.settled.Goals as goal

pub loop-w-init : goal.loop-w-init
loop-w-init c = λ G eg. tells_none _ _

pub loop-w-preserved : goal.loop-w-preserved
loop-w-preserved c =
    let l = c.loop-w in
    let a = c.args in
    λ G eg.
    let after = inner_next a.positions G _ a.end eg l.w _ (omega arith) c.shift.ensures in
    tells_next l.w l.added (ap (over a.g.now a.p.now l.w) after) refl (l.invariant G eg)

pub returns : goal.returns
returns c G P eg ep =
    let l = c.loop-w in
    let a = c.args in
    let L = a.positions in
    let last : ℕ = length a.g.now - 1 in
    let w : l.w ≡ last = omega arith in
    let after = last_next L G _ a.end eg last _ _ (omega arith) (omega arith) c.filled.ensures (rw c.from.ensures at c.shift-next.ensures) in
    rows_told L (λ i. G i || (P i && rows.next L G a.end i)) G (omega arith)
    (tells_next last l.added (ap (over a.g.now a.p.now last) after) refl
    (subst (Tells l.added (stepped L G a.end a.g.now a.p.now) (λ v. get_or a.g.now v 0)) w (l.invariant G eg)))
    (step_word L G P _ _ eg ep a.end) (in_row L G _ eg)
