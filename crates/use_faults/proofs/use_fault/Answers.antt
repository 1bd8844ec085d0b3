use mathlib.Core.Path.{refl, sym, ap, ◌∙◌}
use native.Mathlib.Numerals.{add-one}
use native.Mathlib.Omega.{arith}
use Rattle.refusals.specs.Refusals.{first}
use Rattle.use_faults.proofs.Uses.{use_step, use_none}
use Rattle.use_faults.proofs.use_fault.Goals as goal

pub loop-n-init : goal.loop-n-init
loop-n-init c = refl

pub returns-then-not-marks-n : goal.returns-then-not-marks-n
returns-then-not-marks-n c = sym (c.loop-n.invariant ∙ use_step _ _ _ c.loop-n-test.true ∙ rw (← c.requires.1.at c.loop-n.n (omega arith), c.if-not-marks-n.true))

pub loop-n-preserved : goal.loop-n-preserved
loop-n-preserved c = c.loop-n.invariant ∙ use_step _ _ _ c.loop-n-test.true ∙ rw (← c.requires.1.at c.loop-n.n (omega arith), c.if-not-marks-n.false, add-one)

pub returns : goal.returns
returns c = sym (c.loop-n.invariant ∙ ap first (use_none _ _ _ c.loop-n-test.false))
