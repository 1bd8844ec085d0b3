-- What the row of a word holds, from the rows of its operands: by what the word's kind stands for, and by the operator that the code has for it.
-- Below the number of samples it is the truth of the word's formula (proofs/Looped.antt of crate row_filling).
use Rattle.std.specs.Prelude.{ℕ, Bool, false, List, get_or}
use Rattle.logic.specs.Truth.{Sequence, Operation, each, shifted, fixpoint, unary_operation, binary_operation, looped}
use Rattle.row_words.specs.Writing.{joins, literal}
use Rattle.table.specs.Node.{Shape, none, constant, letter, unary, binary}
use Rattle.operators.specs.declared.operator.Operator.{Operator}
use Rattle.operators.specs.declared.operator.Operator.TheVariants.{Constant, Letter, Each, Next, Fixpoint}

-- a constant, a letter or its denial, or an operation on the operands
pub data Meaning : Type 0 where
  constantly literally : Bool → Meaning
  operation : Operation → Meaning

-- of a kind, by the table of operations
abbrev pub meaning : Shape → Meaning
meaning none = constantly false
meaning (constant c) = constantly c
meaning (letter c) = literally c
meaning (unary o) = operation (unary_operation o)
meaning (binary o) = operation (binary_operation o)

-- of the code's operator
abbrev pub does : Operator → Meaning
does (Constant c) = constantly c
does (Letter c) = literally c
does (Each op) = operation (each (joins op))
does Next = operation shifted
does (Fixpoint goal keep greatest) = operation (fixpoint (joins goal) (joins keep) greatest)

-- the row's sequence over L positions with loop start s: n is the word's letter, f and g are its operands' sequences
abbrev pub row_by : ℕ → ℕ → List ℕ → Meaning → ℕ → Sequence → Sequence → Sequence
row_by L s samples (constantly c) n f g i = c
row_by L s samples (literally c) n f g i = literal n c (get_or samples i 0)
row_by L s samples (operation o) n f g i = looped L s o f g i
