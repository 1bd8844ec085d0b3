-- The checks that are left of the move call once the table t has passed its own.
use Rattle.std.specs.Prelude.{ℕ, List, ◌++◌}
use Rattle.refusals.specs.Refusals.{Check}
use Rattle.table.specs.StepChecks.{sample_checks}
use Rattle.automaton_steps.specs.Steps.{state_checks}

-- 6, then 22 and 21
abbrev pub left_checks : ℕ → ℕ → List ℕ → List Check
left_checks n driven t = state_checks n t ++ sample_checks driven t
