-- The conjuncts GF(ψ[N]Σ₁) and FG(ψ[M]Π₁) of a part: source 002, Lemma 14.
use Prim.Native.Nat.{ℕ, max}
use native.Mathlib.Nat.{le_trans, le-max_left, le-max_right}
use mathlib.Core.Bool.{Bool}
use lib.Dec.{T}
use Rattle.logic.specs.Formula.{Formula, Binary, bin}
use Rattle.logic.specs.Lasso.{Word}
use Rattle.logic.specs.Semantics.{Always, Holds}
use Rattle.transforms.specs.Rewriting.{steady, recurring}
use Rattle.transforms.specs.NormalForm.{is_least, is_greatest}
use Rattle.transforms.specs.Subformula.{Sub, self, under, left, right}
use Rattle.transforms.specs.Recurrence.{InfinitelyOften, AlmostAlways, M⊆GF, GF⊆M, N⊆FG, FG⊆N}
use Rattle.transforms.proofs.Normal.PlainFormula.{Plain, constant, literal, step, join, exclusive, sub-constant, sub-literal, sub-unary, sub-binary}
use Rattle.transforms.proofs.Normal.Stability.{Stable, from_stable}
use Rattle.transforms.proofs.Normal.SteadyForm.{steady-sound}
use Rattle.transforms.proofs.Normal.RecurringForm.{recurring-complete, recurring-sound}
use Rattle.transforms.proofs.Normal.OpeningForm.{steady_after}

-- every conjunct of the chosen fixpoints of φ holds
pub record Conjuncts (σ : Word) (M N : Formula → Bool) (φ : Formula) : Type 0 where
  pub infinitely : (ψ : Formula) → Sub ψ φ → T (is_least ψ) → T (M ψ) → InfinitelyOften (Holds σ (recurring N ψ))
  pub almost : (ψ : Formula) → Sub ψ φ → T (is_greatest ψ) → T (N ψ) → AlmostAlways (Holds σ (steady M ψ))

below : {σ : Word} {M N : Formula → Bool} {φ ψ : Formula} → ((χ : Formula) → Sub χ ψ → Sub χ φ) → Conjuncts σ M N φ → Conjuncts σ M N ψ
below f c = record { infinitely = λ χ s. c.infinitely χ (f χ s); almost = λ χ s. c.almost χ (f χ s) }

module _ (σ : Word) (C : Formula → Bool) where
  abbrev Infinitely : Formula → Type 0
  Infinitely ψ = T (is_least ψ) → T (C ψ) → InfinitelyOften (Holds σ ψ)

  abbrev Almost : Formula → Type 0
  Almost ψ = T (is_greatest ψ) → T (C ψ) → AlmostAlways (Holds σ ψ)

  abbrev From : ℕ → Formula → Type 0
  From s ψ = T (is_greatest ψ) → T (C ψ) → Always (Holds σ ψ) s

module _ {σ : Word} (w : Stable σ) (M N : Formula → Bool) where
  -- Lemma 14.1: what holds again and again, or from some position on, does so in its recurring or steady form
  pub recurring-infinitely : {ψ : Formula} → Plain ψ → FG⊆N σ N ψ → InfinitelyOften (Holds σ ψ) → InfinitelyOften (Holds σ (recurring N ψ))
  recurring-infinitely p h io i = let u = io i in (u.0, u.1, recurring-complete σ N p h u.0 u.2)

  pub steady-almost : {ψ : Formula} → Plain ψ → GF⊆M σ M ψ → AlmostAlways (Holds σ ψ) → AlmostAlways (Holds σ (steady M ψ))
  steady-almost {ψ} p h x = (w.position, λ k sk. steady_after w M p h k sk (from_stable w ψ x k sk))

  -- Lemma 14.2 at one operator, with what it says of the operands
  infinitely_here : {o : Binary} {a b : Formula} → Plain (bin o a b) → Conjuncts σ M N (bin o a b) → N⊆FG σ N a → N⊆FG σ N b
      → Infinitely σ M (bin o a b)
  infinitely_here {o} {a} {b} p c f g l m i =
      let s = w.position in
      let u = c.infinitely (bin o a b) self l m (max i s) in
      let h =
      sub-binary (From σ N s) (λ r n. absurd (exclusive (bin o a b) l r)) (λ ψ y r n. from_stable w ψ (f ψ y r n))
      (λ ψ y r n. from_stable w ψ (g ψ y r n)) in
      (u.0, le_trans (le-max_left i s) u.1, recurring-sound σ N p s h u.0 (le_trans (le-max_right i s) u.1) u.2)

  almost_here : {o : Binary} {a b : Formula} → Plain (bin o a b) → Conjuncts σ M N (bin o a b) → M⊆GF σ M a → M⊆GF σ M b → Almost σ N (bin o a b)
  almost_here {o} {a} {b} p c f g r n =
      let x = c.almost (bin o a b) self r n in
      let h = sub-binary (Infinitely σ M) (λ l m. absurd (exclusive (bin o a b) l r)) f g in
      (x.0, λ k xk. steady-sound σ M p h k (x.1 k xk))

  -- Lemma 14.2: if the conjuncts hold, M ⊆ GF and N ⊆ FG. A least fixpoint's recurring form looks only at greatest fixpoints below it,
  -- and a greatest fixpoint's steady form only at least ones below it.
  pub conjuncts-sound : {φ : Formula} → Plain φ → Conjuncts σ M N φ → M⊆GF σ M φ × N⊆FG σ N φ
  conjuncts-sound constant c = (sub-constant (Infinitely σ M) absurd, sub-constant (Almost σ N) absurd)
  conjuncts-sound literal c = (sub-literal (Infinitely σ M) absurd, sub-literal (Almost σ N) absurd)
  conjuncts-sound (step p) c =
      let f = conjuncts-sound p (below (λ χ s. under s) c) in
      (sub-unary (Infinitely σ M) absurd f.0, sub-unary (Almost σ N) absurd f.1)
  conjuncts-sound (join t p q) c =
      let f = conjuncts-sound p (below (λ χ s. left s) c) in
      let g = conjuncts-sound q (below (λ χ s. right s) c) in (
        sub-binary (Infinitely σ M) (infinitely_here (join t p q) c f.1 g.1) f.0 g.0,
        sub-binary (Almost σ N) (almost_here (join t p q) c f.0 g.0) f.1 g.1,
      )
