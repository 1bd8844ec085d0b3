-- What the two calls of a watching automaton tell where they are answered (document 02, N14), of a table s with its header and the words u that are made
-- of it; body gives the words after the header.
use Rattle.std.specs.Prelude.{ℕ, ◌≤◌, ◌≡◌, List, length}
use Rattle.table.specs.Table.{rule}
use Rattle.table.specs.Header.{body}
use Rattle.automata_tables.specs.States.{state_words}
use Rattle.automata_tables.specs.Moves.{written_at, move_table, as_positive}
use Rattle.automata_tables.specs.Recognises.{Recognises}

-- the states
pub record Watched (s u : List ℕ) : Type 0 where
  -- the defined words, in rising word, then class bit
  pub words : u ≡ state_words (body s)
  -- the automaton whose states they are accepts a looped recording exactly when the rule holds at moment 0, and what else is said of it
  pub recognises : Recognises (body s)

-- the move of state q on the sample v, or for 0 the start
pub record Moved (q v : ℕ) (s u : List ℕ) : Type 0 where
  -- the defined words
  pub words : u ≡ move_table (body s) q v
  -- there is such a state, of that same automaton
  pub inside : q ≤ length (state_words (body s))
  pub recognises : Recognises (body s)
  -- read back, the last word stands for what the state moves to
  pub stands : as_positive (rule u) ≡ written_at (body s) q v
