-- The calls of a watching automaton as steps (document 02, N14). Neither result has a header.
use Rattle.std.specs.Prelude.{ℕ, true, not, List, [], ◌∷◌, ◌++◌, length, ltb}
use Rattle.refusals.specs.declared.Refusal.TheVariants.{ResultTooShort, NotDeltaTwo, StateOutside}
use Rattle.refusals.specs.Refusals.{Check, ◌⇒◌}
use Rattle.table.specs.Limits.{most_words}
use Rattle.table.specs.Header.{body, headed_checks}
use Rattle.table.specs.StepChecks.{sample_checks}
use Rattle.table.specs.Steps.{is_normal}
use Rattle.table.specs.Frame.{Step}
use Rattle.automata_tables.specs.States.{state_words}
use Rattle.automata_tables.specs.Moves.{move_table}

-- "28 when the last word's class lacks Delta-2, before 12"
unfoldable pub delta_checks : List ℕ → List Check
delta_checks t = (not (is_normal t) ⇒ NotDeltaTwo) ∷ []

-- "Any past the last is 6, at place 0 and after 28"
unfoldable pub state_checks : ℕ → List ℕ → List Check
state_checks n t = (ltb (length (state_words t)) n ⇒ StateOutside) ∷ []

-- 12 of more words or states than a table may have words, whatever the slice
unfoldable pub long_checks : ℕ → List Check
long_checks k = (ltb most_words k ⇒ ResultTooShort) ∷ []

-- the table with its header, then its class
abbrev pub watched_checks : List ℕ → List Check
watched_checks s = headed_checks true most_words s ++ delta_checks (body s)

-- the states, in rising word, then class bit
abbrev pub states_step : Step
states_step = record {
  checks = λ s. watched_checks s ++ long_checks (length (state_words (body s)));
  makes = λ s. state_words (body s);
}

-- 6 of the state, then 22 and 21 as in N12
abbrev pub asked_checks : ℕ → ℕ → List ℕ → List Check
asked_checks n driven s = watched_checks s ++ (state_checks n (body s) ++ sample_checks driven (body s))

-- the move of state n on a sample that drives so many letters, or for 0 the start
abbrev pub move_step : ℕ → ℕ → ℕ → Step
move_step n v driven = record {
  checks = λ s. asked_checks n driven s ++ (long_checks (length (state_words (body s))) ++ long_checks (length (move_table (body s) n v)));
  makes = λ s. move_table (body s) n v;
}
