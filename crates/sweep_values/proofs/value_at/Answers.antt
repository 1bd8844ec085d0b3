use mathlib.Core.Path.{refl, sym, ap, ◌∙◌}
use mathlib.Core.Bool.{true, false}
use Prim.Native.Nat.{◌-◌, ◌%◌}
use native.Mathlib.Omega.{arith}
use borrow.Author.Tests.{eq-eqb, ne_eqb}
use Rattle.logic.specs.Truth.{sweep}
use Rattle.row_words.specs.Row as rows
use Rattle.row_words.proofs.Sweep.{sweep-done}
use Rattle.word_carries.proofs.Carries.{kept_law}
use Rattle.row_words.proofs.Rows.{goal_reached, keep_failed, word_passed}
use Rattle.sweep_values.proofs.Shifted.{word_from}
use Rattle.sweep_values.proofs.value_at.Goals as goal

pub loop-i-init : goal.loop-i-init
loop-i-init c = (omega arith, λ G P er ep. refl)

pub returns-then-first : goal.returns-then-first
returns-then-first c G P eg ep =
    let l = c.loop-i in
    let h = c.loop-i-test.true in
    let n = c.filled.ensures in
    let goal = sym (c.first.ensures G P l.i (word_from _ G _ l.i _ eg h (omega arith)) (word_from _ P _ l.i _ ep h (omega arith))) ∙ c.if-first.true in
    goal_reached _ G P _ l.i h (ap (sweep G P false l.i) (omega arith) ∙ goal) ∙ sym (l.invariant.1 G P eg ep)

pub loop-i-preserved : goal.loop-i-preserved
loop-i-preserved c = (
  omega arith,
  λ G P eg ep.
      let l = c.loop-i in
      let h = c.loop-i-test.true in
      let n = c.filled.ensures in
      let kept = word_from _ P _ l.i (c.filled.result - l.i % 64) ep h (omega arith) in
      let goal = sym (c.first.ensures G P l.i (word_from _ G _ l.i _ eg h (omega arith)) kept) ∙ c.if-first.false in
      let keep = sym (kept_law P l.i _ _ _ c.ones.ensures kept) ∙ eq-eqb _ _ c.if-kept-ones.false in
      l.invariant.1 G P eg ep
      ∙ word_passed _ G P _ l.i h (ap (sweep G P false l.i) (omega arith) ∙ goal) (ap (sweep rows.nowhere P true l.i) (omega arith) ∙ keep),
)

pub returns-then-kept-ones : goal.returns-then-kept-ones
returns-then-kept-ones c G P eg ep =
    let l = c.loop-i in
    let h = c.loop-i-test.true in
    let n = c.filled.ensures in
    let kept = word_from _ P _ l.i (c.filled.result - l.i % 64) ep h (omega arith) in
    let goal = sym (c.first.ensures G P l.i (word_from _ G _ l.i _ eg h (omega arith)) kept) ∙ c.if-first.false in
    let keep = sym (kept_law P l.i _ _ _ c.ones.ensures kept) ∙ ne_eqb _ _ c.if-kept-ones.true in
    keep_failed _ G P _ l.i h (ap (sweep G P false l.i) (omega arith) ∙ goal) (ap (sweep rows.nowhere P true l.i) (omega arith) ∙ keep) ∙ sym (l.invariant.1 G P eg ep)

pub returns : goal.returns
returns c G P er ep =
    let l = c.loop-i in
    sym (l.invariant.1 G P er ep ∙ sweep-done G P _ _ _ (omega arith))
