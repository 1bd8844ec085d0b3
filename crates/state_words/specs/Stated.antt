-- The states of words, and of one word, as words in a slice.
use Rattle.std.specs.Prelude.{ℕ, ◌+◌, ◌≤◌, ◌≡◌, true, List, ◌++◌, length, take, drop}
use Rattle.std.specs.Prelude.{Ok}
use Rattle.table.specs.Checks.{checked}
use Rattle.automata_tables.specs.States.{state_words}
use Rattle.state_classes.specs.Classes.{own_words}

-- accepted plain words, and room for their class bytes
pub record Space (t bytes : List ℕ) : Type 0 where
  pub accepted : checked true 16383 t ≡ Ok tt
  pub bytes_long : length t ≤ length bytes

-- there are n states, and where they fit, they stand at the front
pub record Stated (t out made : List ℕ) (n : ℕ) : Type 0 where
  pub all : n ≡ length (state_words t)
  pub long : length made ≡ length out
  pub front : n ≤ length out → made ≡ state_words t ++ drop n out

-- there are n states of word j, and where they fit, they stand from an index on
pub record Put (kind byte j at : ℕ) (out made : List ℕ) (n : ℕ) : Type 0 where
  pub all : n ≡ length (own_words kind byte j)
  pub long : length made ≡ length out
  pub own : at + n ≤ length out → made ≡ take at out ++ own_words kind byte j ++ drop (at + n) out
