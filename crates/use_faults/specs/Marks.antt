-- What the marks of operands say.
use Rattle.std.specs.Prelude.{ℕ, ◌<◌, ◌≡◌, Bool, false, List, length, get_or}
use Rattle.table.specs.Checks.{used}

-- a number is marked where a word of t has it for an operand
pub record Marked (t : List ℕ) (marks : List Bool) : Type 0 where
  pub at : (n : ℕ) → n < length marks → get_or marks n false ≡ used n t
