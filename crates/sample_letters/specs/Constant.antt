-- The constant that a letter becomes by a sample.
use Rattle.std.specs.Prelude.{ℕ, cond, eqb}
use Rattle.std.specs.Bool.{beq}
use Rattle.logic.specs.Lasso.{letter_in}

-- the constant that the letter n, kind 3, or its negation is in the sample v
abbrev pub constant_at : (v k n : ℕ) → ℕ
constant_at v k n = cond (beq (eqb k 3) (letter_in v n)) 2 1
