-- What becomes of a slice to which the move of a state, or the start, is placed, once the table t has passed its checks.
use Rattle.std.specs.Prelude.{ℕ, ◌≤◌, ◌≡◌, Bool, true, false, ◌&&◌, List, ◌++◌, length, drop, leb}
use Rattle.std.specs.Prelude.{Ok, Err}
use Rattle.table.specs.Checks.{checked}
use Rattle.table.specs.Numbering.{fits}
use Rattle.automata_tables.specs.States.{state_words}
use Rattle.automata_tables.specs.Moves.{move_table}
use Rattle.state_numbers.specs.Numbered.{Filled}

-- at most 16,383 states, and the words fit a slice
unfoldable pub move_fits : List ℕ → ℕ → ℕ → ℕ → Bool
move_fits t n v slice = leb (length (state_words t)) 16383 && fits (length (move_table t n v)) slice

-- the slice out becomes e: the move stands at the front, and r is its length; or r is 0
pub record Placed (t : List ℕ) (n v : ℕ) (out e : List ℕ) (r : ℕ) : Type 0 where
  pub unfit : r ≡ 0 → move_fits t n v (length out) ≡ false
  pub fit : (r ≡ 0 → ⊥) → (move_fits t n v (length out) ≡ true) × (r ≡ length (move_table t n v)) × (e ≡ move_table t n v ++ drop (length (move_table t n v)) out)

-- an accepted table, what is kept of it, and a state of it
pub record Known (t bytes starts : List ℕ) (total n : ℕ) : Type 0 where
  pub accepted : checked true 16383 t ≡ Ok tt
  pub filled : Filled t bytes starts total
  pub inside : n ≤ total
