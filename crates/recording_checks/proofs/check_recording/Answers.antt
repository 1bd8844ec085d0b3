-- The conditions in their order, each by its test.
use Prim.Native.Nat.{◌≤◌, ◌<◌}
use native.Mathlib.Omega.{arith}
use borrow.Author.Tests.{eq-eqb, ne_eqb, lt-ltb, le-ltb, le-leb, lt-leb}
use Rattle.table.specs.StepChecks.{driven_checks}
use Rattle.judge_conditions.specs.Checks.{recording_checks}
use Rattle.recording_checks.proofs.check_recording.Goals as goal

pub returns-then-samples-eq0 : goal.returns-then-samples-eq0
unfolding recording_checks driven_checks
returns-then-samples-eq0 c = simp (eq-eqb _ _ c.if-samples-eq0.true)

pub returns-then-samples-gt4096 : goal.returns-then-samples-gt4096
unfolding recording_checks driven_checks
returns-then-samples-gt4096 c = simp (ne_eqb _ _ c.if-samples-eq0.false, lt-ltb _ _ c.if-samples-gt4096.true)

pub returns-then-start-samples : goal.returns-then-start-samples
unfolding recording_checks driven_checks
returns-then-start-samples c = simp (ne_eqb _ _ c.if-samples-eq0.false, le-ltb _ _ c.if-samples-gt4096.false, le-leb _ _ c.if-start-samples.true)

pub returns-then-driven-gt32 : goal.returns-then-driven-gt32
unfolding recording_checks driven_checks
returns-then-driven-gt32 c =
    let inside : c.args.start < c.args.samples = omega arith in
    let many : 32 < c.args.driven = omega arith in
    simp (ne_eqb _ _ c.if-samples-eq0.false, le-ltb _ _ c.if-samples-gt4096.false, lt-leb _ _ inside, lt-ltb _ _ many)

pub returns : goal.returns
unfolding recording_checks driven_checks
returns c =
    let inside : c.args.start < c.args.samples = omega arith in
    let few : c.args.driven ≤ 32 = omega arith in
    simp (ne_eqb _ _ c.if-samples-eq0.false, le-ltb _ _ c.if-samples-gt4096.false, lt-leb _ _ inside, le-ltb _ _ few)
