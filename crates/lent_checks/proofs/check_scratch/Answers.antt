-- The product is small, and the test is the condition.
use Prim.Native.Nat.{◌≤◌}
use borrow.Author.Tests.{lt-ltb, le-ltb}
use native.Mathlib.Nat.{mul-le-mul}
use native.Mathlib.Omega.{arith}
use Rattle.judge_conditions.specs.Checks.{scratch_checks}
use Rattle.lent_checks.proofs.check_scratch.Goals as goal

pub overflow_mul-words : goal.overflow_mul-words
overflow_mul-words c = let e : c.row_words.result ≤ 64 = rw c.row_words.ensures (omega arith) in omega (arith, mul-le-mul c.requires.0 e)

pub returns-then-scratch-words : goal.returns-then-scratch-words
unfolding scratch_checks
returns-then-scratch-words c = rw (← c.row_words.ensures) (simp (lt-ltb _ _ c.if-scratch-words.true))

pub returns : goal.returns
unfolding scratch_checks
returns c = rw (← c.row_words.ensures) (simp (le-ltb _ _ c.if-scratch-words.false))
