-- What holds somewhere from a position on, infinitely often, and from some position on for ever; and how the sets M and N of a choice
-- stand to the fixpoint subformulas of a formula that do.
use Rattle.std.specs.Prelude.{ℕ, ◌≤◌, Bool, T}
use Rattle.logic.specs.Formula.{Formula}
use Rattle.logic.specs.Lasso.{Word}
use Rattle.logic.specs.Semantics.{Predicate, Always, Holds}
use Rattle.transforms.specs.NormalForm.{is_least, is_greatest}
use Rattle.transforms.specs.Subformula.{Sub}

abbrev pub Eventually : Predicate → Predicate
Eventually P i = (k : ℕ) × (i ≤ k) × P k

-- GF: again and again
abbrev pub InfinitelyOften : Predicate → Type 0
InfinitelyOften P = (i : ℕ) → Eventually P i

-- FG: from some position on for ever
abbrev pub AlmostAlways : Predicate → Type 0
AlmostAlways P = (i : ℕ) × Always P i

module _ (σ : Word) (C : Formula → Bool) (φ : Formula) where
  -- every chosen least fixpoint of φ holds infinitely often
  abbrev pub M⊆GF : Type 0
  M⊆GF = (ψ : Formula) → Sub ψ φ → T (is_least ψ) → T (C ψ) → InfinitelyOften (Holds σ ψ)

  -- every least fixpoint of φ that holds infinitely often is chosen
  abbrev pub GF⊆M : Type 0
  GF⊆M = (ψ : Formula) → Sub ψ φ → T (is_least ψ) → InfinitelyOften (Holds σ ψ) → T (C ψ)

  -- every chosen greatest fixpoint of φ holds from some position on
  abbrev pub N⊆FG : Type 0
  N⊆FG = (ψ : Formula) → Sub ψ φ → T (is_greatest ψ) → T (C ψ) → AlmostAlways (Holds σ ψ)

  -- every greatest fixpoint of φ that holds from some position on is chosen
  abbrev pub FG⊆N : Type 0
  FG⊆N = (ψ : Formula) → Sub ψ φ → T (is_greatest ψ) → AlmostAlways (Holds σ ψ) → T (C ψ)
