-- A table written at the front of a slice, and the answer and the slice with which a step ends.
use Rattle.std.specs.Prelude.{ℕ, ◌≡◌, true, false, List, ◌++◌, length, drop}
use Rattle.table.specs.Answers.{Answer}
use Rattle.table.specs.Frame.{Step, answer_of, result_of}
use Rattle.table.specs.Numbering.{fits}

-- the table u stands at the front, and n is its length
pub record Fitting (u out made : List ℕ) (n : ℕ) : Type 0 where
  pub fitting : fits (length u) (length out) ≡ true
  pub long : n ≡ length u
  pub words : made ≡ u ++ drop (length u) out

-- 0 for a table that does not fit
pub record Written (u out made : List ℕ) (n : ℕ) : Type 0 where
  pub unfit : n ≡ 0 → fits (length u) (length out) ≡ false
  pub fit : (n ≡ 0 → ⊥) → Fitting u out made n

pub record Ends (s : Step) (t result : List ℕ) (r : Answer) (e : List ℕ) : Type 0 where
  pub reply : r ≡ answer_of s t (length result)
  pub slice : e ≡ result_of s t result
