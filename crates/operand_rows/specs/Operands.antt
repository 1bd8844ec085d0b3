-- The rows of a word's operands among the rows before it, and what the word's own row is written from.
use Rattle.std.specs.Prelude.{ℕ, ◌*◌, ◌≤◌, ◌≡◌, List, length}
use Rattle.logic.specs.Truth.{Sequence, across}
use Rattle.row_words.specs.Row.{row}
use Rattle.row_words.specs.Writing.{joins}
use Rattle.operators.specs.declared.operator.Operator.{Operator}
use Rattle.operators.specs.declared.operator.Operator.TheVariants.{Constant, Letter, Each, Next, Fixpoint}

-- word number n has a row among rows of so many words
pub record Standing (n words : ℕ) (scratch : List ℕ) : Type 0 where
  pub some : 1 ≤ n
  pub room : n * words ≤ length scratch

-- what a writer is lent beside the row: the connective's row, the row of X's operand, or a fixpoint's goal and keep
abbrev pub Prepared : Operator → ℕ → Sequence → Sequence → List ℕ → List ℕ → Type 0
Prepared (Constant c) L f g a b = Unit
Prepared (Letter c) L f g a b = Unit
Prepared (Each op) L f g a b = a ≡ row L (across (joins op) f g)
Prepared Next L f g a b = a ≡ row L g
Prepared (Fixpoint goal keep greatest) L f g a b = (a ≡ row L (across (joins goal) f g)) × (b ≡ row L (across (joins keep) f g))
