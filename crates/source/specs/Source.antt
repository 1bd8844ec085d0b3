-- A word of an accepted table, by its number, taken apart.
use Rattle.std.specs.Prelude.{ℕ, ◌-◌, ◌<◌, ◌≤◌, ◌≡◌, Bool, true, List, length, get_or}
use Rattle.std.specs.Prelude.{Ok}
use Rattle.table.specs.Node.{kind, shape, left_field, right_field}
use Rattle.table.specs.Table.{formulas, formula_of, formula_by}
use Rattle.table.specs.Checks.{is_operand, is_blank, checked}

-- j is the number of a word of a table that is accepted, as a written one or a plain one, under some limit
pub record Inside (t : List ℕ) (j : ℕ) : Type 0 where
  pub plain : Bool
  pub limit : ℕ
  pub accepted : checked plain limit t ≡ Ok tt
  pub positive : 0 < j
  pub inside : j ≤ length t

-- an operand is the number of an earlier word
pub record Earlier (i j : ℕ) : Type 0 where
  pub positive : 0 < i
  pub below : i < j

-- word j has kind k, left field l and right field r
pub record WordAt (t : List ℕ) (j k l r : ℕ) : Type 0 where
  pub kinded : k ≡ kind (get_or t (j - 1) 0)
  pub positive : 0 < k
  pub below : k < 16
  pub formula : formula_of (formulas t) j ≡ formula_by (shape k) r (formula_of (formulas t) l) (formula_of (formulas t) r)
  pub left_operand : is_operand (left_field (shape k)) ≡ true → Earlier l j
  pub right_operand : is_operand (right_field (shape k)) ≡ true → Earlier r j
  pub left_fits : l < 16384
  pub right_fits : r < 16384
  pub right_blank : is_blank (right_field (shape k)) ≡ true → r ≡ 0
