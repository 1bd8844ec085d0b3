-- The unfolded form of a plain table, its parts, and the words of the table that a part has chosen. Words are numbered from 1.
use Rattle.std.specs.Prelude.{ℕ, pred, ◌^◌, ◌≤◌, ◌<◌, ◌≡◌, ◌⊎◌, ◌↔◌, List, length, get_or, T}
use Rattle.logic.specs.Bit.{bit}
use Rattle.logic.specs.Formula.{Formula}
use Rattle.logic.specs.Lasso.{Lasso, word}
use Rattle.logic.specs.Semantics.{Predicate, Holds}
use Rattle.transforms.specs.NormalForm.{part, normal_form}
use Rattle.transforms.specs.Recurrence.{InfinitelyOften, AlmostAlways}
use Rattle.table.specs.Node.{kind}
use Rattle.table.specs.Table.{formulas, formula_of, rule}
use Rattle.table.specs.Numbering.{table_of}
use Rattle.table.specs.Steps.{fixpoints}
use Rattle.fixpoints.specs.Positions.{bit_of}

-- the form of source 002 as it stands: not folded (document 02, N8), and made also of a table whose last word is in Δ₂ (N11)
unfoldable pub unfolded_table : List ℕ → List ℕ
unfolded_table t = table_of (normal_form (fixpoints t) (rule t))

-- the part of a choice, and the numbers that are choices
abbrev pub part_of : List ℕ → ℕ → Formula
part_of t c = part (fixpoints t) (rule t) c

abbrev pub IsChoice : List ℕ → ℕ → Type 0
IsChoice t c = c < 2 ^ length (fixpoints t)

-- where word j holds
abbrev pub HoldsAt : Lasso → List ℕ → ℕ → Predicate
HoldsAt r t j = Holds (word r) (formula_of (formulas t) j)

-- word j is U or M, kind 8 or 11; or it is W or R, kind 9 or 10
abbrev pub LeastWord : List ℕ → ℕ → Type 0
LeastWord t j = (kind (get_or t (pred j) 0) ≡ 8) ⊎ (kind (get_or t (pred j) 0) ≡ 11)

abbrev pub GreatestWord : List ℕ → ℕ → Type 0
GreatestWord t j = (kind (get_or t (pred j) 0) ≡ 9) ⊎ (kind (get_or t (pred j) 0) ≡ 10)

-- j is the number of an until-like word
pub record UntilLike (t : List ℕ) (j : ℕ) : Type 0 where
  pub positive : 0 < j
  pub inside : j ≤ length t
  pub kinded : LeastWord t j ⊎ GreatestWord t j

-- a choice has chosen word j: the word is until-like, and its bit in the choice is 1
pub record Chosen (t : List ℕ) (c j : ℕ) : Type 0 where
  pub word : UntilLike t j
  pub one : T (bit c (bit_of t (pred j)))

-- over a lasso word j lasts: U and M hold again and again for ever, W and R from some position on
pub record Lasts (r : Lasso) (t : List ℕ) (j : ℕ) : Type 0 where
  pub least : LeastWord t j → InfinitelyOften (HoldsAt r t j)
  pub greatest : GreatestWord t j → AlmostAlways (HoldsAt r t j)

-- a choice has chosen only words that last
abbrev pub OnlyLasting : Lasso → List ℕ → ℕ → Type 0
OnlyLasting r t c = (j : ℕ) → Chosen t c j → Lasts r t j

-- it is a choice, and has chosen all of those and no other
pub record AllLasting (r : Lasso) (t : List ℕ) (c : ℕ) : Type 0 where
  pub choice : IsChoice t c
  pub exactly : (j : ℕ) → UntilLike t j → Chosen t c j ↔ Lasts r t j
