-- What the table of a move, or of the start, is written with.
use Rattle.std.specs.Prelude.{ℕ, ◌+◌, ◌*◌, ◌≤◌, List, length}
use Rattle.placing.specs.Written.{Written}
use Rattle.automata_tables.specs.Moves.{move_table}

-- a draft with the slots that a table needs, and a slice of no more words than those
pub record Asked (slots : ℕ) (t out : List ℕ) : Type 0 where
  pub few : 7 * length t + 7 ≤ slots
  pub lent : length out ≤ 7 * length t + 7

-- the table of the move of state n by the sample v, or of the start, is written, and has no more words than the table's draft has slots
pub record Moved (t : List ℕ) (n v : ℕ) (out made : List ℕ) (r : ℕ) : Type 0 where
  pub written : Written (move_table t n v) out made r
  pub short : length (move_table t n v) ≤ 7 * length t + 7
