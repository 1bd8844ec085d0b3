-- A stable word has its exact choice: of the least fixpoints those that hold infinitely often, of the greatest those that hold from some position on.
use mathlib.Core.Bool.{Bool, true, false, cond}
use mathlib.Core.Logic.Iff
use mathlib.Core.Logic.{◌⊎◌, inl, inr, ◌↔◌}
use mathlib.Core.List.{List, Memᴰ}
use lib.Dec.{T}
use Rattle.logic.specs.Formula.{Formula}
use Rattle.logic.specs.Lasso.{Word}
use Rattle.logic.specs.Semantics.{Holds}
use Rattle.transforms.specs.NormalForm.{is_least, is_greatest, keep, least_of, greatest_of}
use Rattle.transforms.specs.Recurrence.{InfinitelyOften, AlmostAlways}
use Rattle.transforms.specs.Choice.{Exact}
use Rattle.transforms.proofs.Normal.PlainFormula.{exclusive}
use Rattle.transforms.proofs.Normal.Stability.{Stable, infinitely-often-decided, almost-always-decided}
use Rattle.transforms.proofs.Normal.Membership.{mem_keep, keep_mem}
use Rattle.transforms.proofs.Normal.Choices.{choice_by, chosen_by}

-- what passes two tests, the second in other words
mem_both : (p q : Formula → Bool) {ψ : Formula} (ψs : List Formula) {X : Type 0} → (T (p ψ) → T (q ψ) ↔ X)
    → Memᴰ ψ (keep p (keep q ψs)) ↔ (Memᴰ ψ ψs × T (p ψ) × X)
mem_both p q ψs f = (
  λ m.
      let k = mem_keep p (keep q ψs) m in
      let n = mem_keep q ψs k.0 in
      (n.0, k.1, (f k.1).0 n.1),
  λ t. keep_mem p t.1 (keep_mem q ((f t.1).1 t.2) t.0),
)

-- a decision as a test
answer {ℓ} : {A : Type ℓ} → A ⊎ (A → ⊥) → Bool
answer (inl a) = true
answer (inr f) = false

answer-true {ℓ} : {A : Type ℓ} (d : A ⊎ (A → ⊥)) → T (answer d) ↔ A
unfolding answer
answer-true (inl a) = (λ t. a, λ x. tt)
answer-true (inr f) = (λ t. absurd t, λ x. absurd (f x))

cond-true : (b p q : Bool) → T b → T (cond b p q) ↔ T p
cond-true true p q t = (λ x. x, λ x. x)
cond-true false p q t = absurd t

cond-false : (b p q : Bool) → (T b → ⊥) → T (cond b p q) ↔ T q
cond-false true p q f = absurd (f tt)
cond-false false p q f = (λ x. x, λ x. x)

module _ {σ : Word} (w : Stable σ) where
  -- a least fixpoint that holds infinitely often, or another formula that holds from some position on
  pub lasting : Formula → Bool
  lasting ψ = cond (is_least ψ) (answer (infinitely-often-decided w ψ)) (answer (almost-always-decided w ψ))

  lasting-least : (ψ : Formula) → T (is_least ψ) → T (lasting ψ) ↔ InfinitelyOften (Holds σ ψ)
  unfolding lasting
  lasting-least ψ l =
      let d = infinitely-often-decided w ψ in
      Iff.trans (cond-true (is_least ψ) (answer d) (answer (almost-always-decided w ψ)) l) (answer-true d)

  lasting-greatest : (ψ : Formula) → T (is_greatest ψ) → T (lasting ψ) ↔ AlmostAlways (Holds σ ψ)
  unfolding lasting
  lasting-greatest ψ g =
      let d = almost-always-decided w ψ in
      Iff.trans (cond-false (is_least ψ) (answer (infinitely-often-decided w ψ)) (answer d) (λ l. exclusive ψ l g)) (answer-true d)

  pub exact_choice : (ψs : List Formula) → Exact σ ψs (choice_by lasting ψs)
  unfolding least_of greatest_of
  exact_choice ψs =
      record {
        least = λ ψ. rw chosen_by (mem_both is_least lasting ψs (lasting-least ψ));
        greatest = λ ψ. rw chosen_by (mem_both is_greatest lasting ψs (lasting-greatest ψ));
      }
