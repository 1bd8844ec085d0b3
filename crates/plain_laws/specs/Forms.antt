-- The plain forms of the words of a table and of their denials, and a place for each.
use Rattle.std.specs.Prelude.{ℕ, ◌+◌, ◌*◌, Bool, true, false, List}
use Rattle.logic.specs.Formula.{Formula}
use Rattle.logic.specs.NegationNormalForm.{plain}
use Rattle.table.specs.Table.{formulas, formula_of}

-- the plain form of word j (true), or of its denial (false); those of word 0, which stands for false, are the constants
abbrev pub form_of : Bool → List ℕ → ℕ → Formula
form_of p t j = plain p (formula_of (formulas t) j)

-- the slot of that form
abbrev pub slot_of : Bool → ℕ → ℕ
slot_of true j = 2 * j
slot_of false j = 2 * j + 1
