-- What the writers of rows promise: the connectives on truth values, and the sizes that a call asks for.
use Rattle.std.specs.Prelude.{ℕ, ◌≤◌, ◌≡◌, Bool, true, false, not, ◌&&◌, ◌||◌, List, length}
use Rattle.std.specs.Bool.{beq}
use Rattle.logic.specs.Lasso.{letter_in}
use Rattle.row_words.specs.Row.{row_words}
use Rattle.row_words.specs.declared.connective.Connective.{Connective}
use Rattle.row_words.specs.declared.connective.Connective.TheVariants.{Never, Always, Left, Right, And, Or, Implies, Not}

-- the value of a connective; `Not` denies its right operand
abbrev pub joins : Connective → Bool → Bool → Bool
joins Never p q = false
joins Always p q = true
joins Left p q = p
joins Right p q = q
joins And p q = p && q
joins Or p q = p || q
joins Implies p q = not p || q
joins Not p q = not q

-- letter n of a sample, or its denial
abbrev pub literal : ℕ → Bool → ℕ → Bool
literal n positive sample = beq positive (letter_in sample n)

-- a slice with room for just the row of L positions, of which there are 1 to 4,096
pub record RowFor (L : ℕ) (r : List ℕ) : Type 0 where
  pub some : 1 ≤ L
  pub few : L ≤ 4096
  pub size : length r ≡ row_words L
