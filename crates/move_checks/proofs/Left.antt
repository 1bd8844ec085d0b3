-- 6, or the checks of the sample, and what has passed them.
use Prim.Native.Nat.{ℕ, ◌≤◌, ◌<◌}
use mathlib.Core.Path.{◌≡◌, refl}
use mathlib.Core.List.{List}
use lib.ListN.{length}
use borrow.Author.Tests.{lt-ltb, le-ltb, ltb-false}
use Rattle.refusals.specs.declared.Refusal.TheVariants.{StateOutside}
use Rattle.std.specs.Prelude.{Ok, Err}
use Rattle.refusals.specs.Refusals.{first}
use Rattle.refusals.proofs.First.{first_passed, first_append_both}
use Rattle.table.specs.StepChecks.{sample_checks}
use Rattle.automata_tables.specs.States.{state_words}
use Rattle.automaton_steps.specs.Steps.{state_checks}
use Rattle.move_checks.specs.Left.{left_checks}

module _ (t : List ℕ) (n driven : ℕ) where
  pub left_state : length (state_words t) < n → Err StateOutside ≡ first (left_checks n driven t)
  unfolding state_checks
  left_state h = rw (lt-ltb (length (state_words t)) n h) refl

  pub left_sample : n ≤ length (state_words t) → first (sample_checks driven t) ≡ first (left_checks n driven t)
  unfolding state_checks
  left_sample h = rw (le-ltb (length (state_words t)) n h) refl

  pub left_inside : first (left_checks n driven t) ≡ Ok tt → n ≤ length (state_words t)
  unfolding state_checks
  left_inside e =
      ltb-false (length (state_words t)) n (first_passed (state_checks n t) ((first_append_both (state_checks n t) (sample_checks driven t)).0 e).0).0
