-- The driven count, and where it passes the letters.
use Prim.Native.Nat.{◌≤◌, ◌<◌}
use native.Mathlib.Omega.{arith}
use borrow.Author.Tests.{lt-ltb, le-ltb}
use Rattle.table.specs.StepChecks.{driven_checks}
use Rattle.letter_checks.proofs.check_sample.Goals as goal

pub returns-then-driven-gt32 : goal.returns-then-driven-gt32
unfolding driven_checks
returns-then-driven-gt32 c = let many : 32 < c.args.driven = omega arith in simp (lt-ltb _ _ many)

pub returns : goal.returns
unfolding driven_checks
returns c = let few : c.args.driven ≤ 32 = omega arith in rw (le-ltb _ _ few) c.check_letters.ensures
