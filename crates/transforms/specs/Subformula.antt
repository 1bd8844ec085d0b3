-- Subformulas, and lists that number the fixpoint subformulas of a formula.
use mathlib.Core.List.{List, Memᴰ}
use Rattle.std.specs.Prelude.{T}
use Rattle.logic.specs.Formula.{Formula, Unary, Binary, un, bin}
use Rattle.transforms.specs.NormalForm.{is_fixpoint}

-- the first is the second, or stands in it
pub data Sub : Formula → Formula → Type 0 where
  self : {φ : Formula} → Sub φ φ
  under : {ψ : Formula} {o : Unary} {a : Formula} → Sub ψ a → Sub ψ (un o a)
  left : {ψ : Formula} {o : Binary} {a b : Formula} → Sub ψ a → Sub ψ (bin o a b)
  right : {ψ : Formula} {o : Binary} {a b : Formula} → Sub ψ b → Sub ψ (bin o a b)

-- a list has every fixpoint subformula of φ, in any order, and has subformulas of φ only
pub record Numbers (ψs : List Formula) (φ : Formula) : Type 0 where
  pub complete : (ψ : Formula) → Sub ψ φ → T (is_fixpoint ψ) → Memᴰ ψ ψs
  pub inside : (ψ : Formula) → Memᴰ ψ ψs → Sub ψ φ
