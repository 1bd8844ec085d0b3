-- The choice that a word makes true: M is exactly the least fixpoints that hold infinitely often, N the greatest that hold from some position on.
use Rattle.std.specs.Prelude.{ℕ, ◌↔◌, T}
use mathlib.Core.List.{List, Memᴰ}
use Rattle.logic.specs.Formula.{Formula}
use Rattle.logic.specs.Lasso.{Word}
use Rattle.logic.specs.Semantics.{Holds}
use Rattle.transforms.specs.NormalForm.{is_least, is_greatest, least_of, greatest_of}
use Rattle.transforms.specs.Recurrence.{InfinitelyOften, AlmostAlways}

pub record Exact (σ : Word) (ψs : List Formula) (c : ℕ) : Type 0 where
  pub least : (ψ : Formula) → Memᴰ ψ (least_of ψs c) ↔ (Memᴰ ψ ψs × T (is_least ψ) × InfinitelyOften (Holds σ ψ))
  pub greatest : (ψ : Formula) → Memᴰ ψ (greatest_of ψs c) ↔ (Memᴰ ψ ψs × T (is_greatest ψ) × AlmostAlways (Holds σ ψ))
