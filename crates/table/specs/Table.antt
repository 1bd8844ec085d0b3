-- The formula that each word of a table stands for. Words are numbered from 1; an operand is the number of an earlier word.
use Rattle.std.specs.Prelude.{ℕ, zero, suc, false, List, [], ◌∷◌, ◌++◌, length, get_or}
use Rattle.logic.specs.Formula.{Formula, const, lit, un, bin}
use Rattle.table.specs.Node.{Shape, none, constant, letter, unary, binary, kind, left, right, shape}

-- the formula of word n, given the formulas of the words so far; false where there is none
unfoldable pub formula_of : List Formula → ℕ → Formula
formula_of φs zero = const false
formula_of φs (suc i) = get_or φs i (const false)

abbrev pub formula_by : Shape → ℕ → Formula → Formula → Formula
formula_by none n a b = const false
formula_by (constant c) n a b = const c
formula_by (letter c) n a b = lit c n
formula_by (unary o) n a b = un o b
formula_by (binary o) n a b = bin o a b

-- the formula of a word after those whose formulas are given
unfoldable pub word_formula : List Formula → ℕ → Formula
word_formula φs w = formula_by (shape (kind w)) (right w) (formula_of φs (left w)) (formula_of φs (right w))

unfoldable pub formulas_after : List Formula → List ℕ → List Formula
formulas_after φs [] = φs
formulas_after φs (w ∷ ws) = formulas_after (φs ++ (word_formula φs w ∷ [])) ws

-- the formulas of a table's words, in order
unfoldable pub formulas : List ℕ → List Formula
formulas t = formulas_after [] t

-- the formula of the last word, which is the rule
unfoldable pub rule : List ℕ → Formula
rule t = formula_of (formulas t) (length t)
