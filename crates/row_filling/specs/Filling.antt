-- The word whose row is read on the left.
use Rattle.std.specs.Prelude.{ℕ, cond, eqb}
use Rattle.table.specs.Node.{left, right}

-- a word with one operand has it on both sides
unfoldable pub first_operand : ℕ → ℕ
first_operand w = cond (eqb (left w) 0) (right w) (left w)
