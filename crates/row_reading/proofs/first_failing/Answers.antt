use mathlib.Core.Path.{◌≡◌, sym, ap₂, ◌∙◌}
use Prim.Native.Nat.{ℕ, ◌≤◌, ◌+◌, ◌-◌, ◌*◌, min}
use native.Mathlib.Omega.{arith}
use Rattle.row_words.specs.Row as rows
use mir.Syntax.{w64}
use mir.Val.{Fits}
use lib.Count.{count_trailing_zeros, trailing_le}
use Rattle.row_reading.proofs.Reading.{word_holds, word-fails, first_none}
use Rattle.row_reading.proofs.first_failing.Goals as goal

-- at most 64 zeros fit, added to a small number too
zeros-fit : (x : ℕ) → Fits w64 (count_trailing_zeros 64 x)
zeros-fit x = omega (arith, trailing_le 64 x)

sum_fits : (n x : ℕ) → n ≤ 4096 → Fits w64 (n + count_trailing_zeros 64 x)
sum_fits n x h = omega (arith, trailing_le 64 x)

pub loop-w-init : goal.loop-w-init
loop-w-init c =
    let L = c.args.positions in
    let z : 0 ≡ min (0 * 64) L = omega arith in
    let l : L ≡ L - 0 * 64 = omega arith in
    λ f e. ap₂ (rows.first_false f) z l

pub overflow_cast-result : goal.overflow_cast-result
overflow_cast-result c = zeros-fit _

pub overflow_add-result : goal.overflow_add-result
overflow_add-result c = sum_fits _ _ (omega arith)

pub returns-then-failing-ne0 : goal.returns-then-failing-ne0
returns-then-failing-ne0 c f e =
    sym (c.loop-w.invariant f e ∙ word-fails _ f _ c.loop-w.w _ _ e (omega arith) c.filled.ensures c.ones.ensures c.if-failing-ne0.true)

pub loop-w-preserved : goal.loop-w-preserved
loop-w-preserved c =
    λ f e.
    c.loop-w.invariant f e ∙ word_holds _ f _ c.loop-w.w _ _ e (omega arith) c.filled.ensures c.ones.ensures c.if-failing-ne0.false

pub returns : goal.returns
returns c f e =
    let l = c.loop-w in
    let a = c.args in
    let end : min (l.w * 64) a.positions ≡ a.positions = omega arith in
    sym (l.invariant f e ∙ first_none f _ _ (omega arith) ∙ end)
