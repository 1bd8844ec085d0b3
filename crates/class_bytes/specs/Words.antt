-- Tables of plain words, and how far the bytes of one are filled.
use Rattle.std.specs.Prelude.{ℕ, suc, ◌≤◌, ◌<◌, ◌≡◌, true, List, length, get_or, take}
use Rattle.table.specs.Node.{kind, left, right}
use Rattle.table.specs.Checks.{is_operand, holds_left, holds_right}
use Rattle.table.specs.Steps.{class_bytes}

-- word number n is of a plain kind, and its operands are earlier words
pub record PlainWord (n w : ℕ) : Type 0 where
  pub kinded : 0 < kind w
  pub plain : kind w < 12
  pub operand_left : is_operand (holds_left w) ≡ true → (0 < left w) × (left w < n)
  pub operand_right : is_operand (holds_right w) ≡ true → (0 < right w) × (right w < n)

abbrev pub PlainWords : List ℕ → Type 0
PlainWords t = (j : ℕ) → j < length t → PlainWord (suc j) (get_or t j 0)

-- the first j bytes are those of the first j words
pub record Filled (t bytes : List ℕ) (j : ℕ) : Type 0 where
  pub room : j ≤ length bytes
  pub so_far : take j bytes ≡ take j (class_bytes t)
