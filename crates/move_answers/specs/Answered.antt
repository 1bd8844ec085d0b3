-- What becomes of a slice to which the move of a state, or the start, is written, once the table t has passed its checks.
use Rattle.std.specs.Prelude.{ℕ, ◌≡◌, true, false, List, ◌++◌, length, drop, replicate}
use Rattle.refusals.specs.declared.Refusal.{Refusal}
use Rattle.refusals.specs.declared.Refusal.TheVariants.{ResultTooShort}
use Rattle.std.specs.Prelude.{Ok, Err}
use Rattle.refusals.specs.Refusals.{first}
use Rattle.table.specs.Answers.{Answer}
use Rattle.automata_tables.specs.Moves.{move_table}
use Rattle.move_placing.specs.Placed.{move_fits}
use Rattle.move_checks.specs.Left.{left_checks}

-- the move stands at the front, or every word is 0
pub record Given (t : List ℕ) (n v : ℕ) (out e : List ℕ) (r : Answer) : Type 0 where
  pub fit : move_fits t n v (length out) ≡ true → (r ≡ Ok (length (move_table t n v))) × (e ≡ move_table t n v ++ drop (length (move_table t n v)) out)
  pub unfit : move_fits t n v (length out) ≡ false → (r ≡ Err ResultTooShort) × (e ≡ replicate (length out) 0)

pub record Answered (t : List ℕ) (n v driven : ℕ) (out e : List ℕ) (r : Answer) : Type 0 where
  pub refused : (q : Refusal) → first (left_checks n driven t) ≡ Err q → (r ≡ Err q) × (e ≡ out)
  pub passed : first (left_checks n driven t) ≡ Ok tt → Given t n v out e r
