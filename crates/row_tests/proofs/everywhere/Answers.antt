use mathlib.Core.Path.{◌≡◌, refl, ap, subst, ◌∙◌}
use mathlib.Core.Bool.{true, ◌||◌}
use Prim.Native.Nat.{ℕ, ◌-◌, ◌^◌}
use native.Mathlib.Omega.{arith}
use lib.ListN.{length}
use Rattle.row_words.specs.Row as rows
use Rattle.row_words.proofs.Compared.{Tells, tells_none, tells_next, rows_told}
use Rattle.row_tests.proofs.Unswept.{full-word, ones-word}
use Rattle.row_tests.proofs.everywhere.Invariants.{either, full}
use Rattle.row_tests.proofs.everywhere.Goals as goal

pub loop-w-init : goal.loop-w-init
loop-w-init c = tells_none _ _

pub loop-w-preserved : goal.loop-w-preserved
loop-w-preserved c =
    let l = c.loop-w in
    let a = c.args in
    let n : 64 ≡ rows.filled a.positions l.w = omega arith in
    tells_next l.w l.missing refl (ap (λ (k : ℕ). 2 ^ k - 1) n) l.invariant

pub returns : goal.returns
returns c G P eg ep =
    let l = c.loop-w in
    let a = c.args in
    let L = a.positions in
    let last : ℕ = length a.g.now - 1 in
    let w : l.w ≡ last = omega arith in
    let ones = c.ones.ensures ∙ ap (λ (k : ℕ). 2 ^ k - 1) c.filled.ensures in
    rows_told L (λ i. G i || P i) (λ i. true) (omega arith)
    (tells_next last l.missing refl ones (subst (Tells l.missing (either a.g.now a.p.now) (full L)) w l.invariant))
    (full-word L G P _ _ eg ep) (ones-word L G P _ _ eg ep)
