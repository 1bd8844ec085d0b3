-- The recurring form φ[N]Σ₁: source 002, Lemma 13. Its second half asks N ⊆ G_w, as Appendix A has it.
use Prim.Native.Nat.{ℕ, suc}
use native.Mathlib.Nat.{le_step}
use mathlib.Core.Bool.{Bool, true, false}
use mathlib.Core.Logic.{◌⊎◌, inl, inr, ⊎_elim}
use lib.Dec.{T}
use Rattle.logic.specs.Formula.{Formula, Binary, bin, conj, disj, until, weak, release, strong, implies}
use Rattle.logic.specs.Lasso.{Word}
use Rattle.logic.specs.Semantics.{Predicate, Always, Until, Weak, Release, Strong, Holds}
use Rattle.logic.specs.NegationNormalForm.{plain_binary}
use Rattle.transforms.specs.Rewriting.{recurring_op, recurring}
use Rattle.transforms.specs.NormalForm.{is_greatest}
use Rattle.transforms.specs.Subformula.{Sub}
use Rattle.transforms.specs.Recurrence.{AlmostAlways, FG⊆N}
use Rattle.transforms.proofs.Normal.Monotonicity.{Entails, binary_mono, until_mono, strong_mono, entails_later, always-later}
use Rattle.transforms.proofs.Normal.PlainFormula.{Plain, plain_induction}

-- a W b that does not hold from some position on for ever is a U b, and a R b likewise a M b
until_or_almost : {P Q : Predicate} {i : ℕ} → Weak P Q i → AlmostAlways (Weak P Q) ⊎ Until P Q i
until_or_almost {i} (inl p) = inl (i, λ k ik. inl (always-later ik p))
until_or_almost (inr u) = inr u

strong_or_almost : {P Q : Predicate} {i : ℕ} → Release P Q i → AlmostAlways (Release P Q) ⊎ Strong P Q i
strong_or_almost {i} (inl q) = inl (i, λ k ik. inl (always-later ik q))
strong_or_almost (inr u) = inr u

module _ (σ : Word) where
  -- an operator entails what it becomes over operands that entail theirs, if a greatest fixpoint that holds from some position on is chosen
  recurring_op_intro : (n : Bool) (o : Binary) (a b a' b' : Formula) (i : ℕ) → T (plain_binary o)
      → (T (is_greatest (bin o a b)) → AlmostAlways (Holds σ (bin o a b)) → T n) → Entails (Holds σ a) (Holds σ a') i
      → Entails (Holds σ b) (Holds σ b') i → Holds σ (bin o a b) i → Holds σ (recurring_op n o a' b') i
  recurring_op_intro n conj a b a' b' i t h f g x = binary_mono conj tt f g x
  recurring_op_intro n disj a b a' b' i t h f g x = binary_mono disj tt f g x
  recurring_op_intro n until a b a' b' i t h f g x = binary_mono until tt f g x
  recurring_op_intro true weak a b a' b' i t h f g x = tt
  recurring_op_intro false weak a b a' b' i t h f g x = until_mono f g (⊎_elim (λ p. absurd (h tt p)) (λ u. u) (until_or_almost x))
  recurring_op_intro true release a b a' b' i t h f g x = tt
  recurring_op_intro false release a b a' b' i t h f g x = strong_mono f g (⊎_elim (λ p. absurd (h tt p)) (λ u. u) (strong_or_almost x))
  recurring_op_intro n strong a b a' b' i t h f g x = binary_mono strong tt f g x
  recurring_op_intro n implies a b a' b' i t h f g x = absurd t

  -- what an operator becomes entails it over operands that entail theirs, if a chosen greatest fixpoint holds
  recurring_op-elim : (n : Bool) (o : Binary) (a b a' b' : Formula) (i : ℕ) → T (plain_binary o)
      → (T (is_greatest (bin o a b)) → T n → Holds σ (bin o a b) i) → Entails (Holds σ a') (Holds σ a) i
      → Entails (Holds σ b') (Holds σ b) i → Holds σ (recurring_op n o a' b') i → Holds σ (bin o a b) i
  recurring_op-elim n conj a b a' b' i t h f g x = binary_mono conj tt f g x
  recurring_op-elim n disj a b a' b' i t h f g x = binary_mono disj tt f g x
  recurring_op-elim n until a b a' b' i t h f g x = binary_mono until tt f g x
  recurring_op-elim true weak a b a' b' i t h f g x = h tt tt
  recurring_op-elim false weak a b a' b' i t h f g x = inr (until_mono f g x)
  recurring_op-elim true release a b a' b' i t h f g x = h tt tt
  recurring_op-elim false release a b a' b' i t h f g x = inr (strong_mono f g x)
  recurring_op-elim n strong a b a' b' i t h f g x = binary_mono strong tt f g x
  recurring_op-elim n implies a b a' b' i t h f g x = absurd t

  -- Lemma 13.1: φ entails φ[N]Σ₁, if N has every greatest fixpoint of φ that holds from some position on for ever
  pub recurring-complete : (N : Formula → Bool) {φ : Formula} → Plain φ → FG⊆N σ N φ → (i : ℕ) → Holds σ φ i → Holds σ (recurring N φ) i
  unfolding recurring
  recurring-complete N p h =
      plain_induction (λ φ. (i : ℕ) → Holds σ φ i → Holds σ (recurring N φ) i) (λ c i x. x) (λ c n i x. x) (λ a e i x. e (suc i) x) p
      (λ o a b s t p q e f i.
      recurring_op_intro (N (bin o a b)) o a b (recurring N a) (recurring N b) i t (h (bin o a b) s) (λ k ik. e k) (λ k ik. f k))

  -- Lemma 13.2: φ[N]Σ₁ entails φ from i on, if every greatest fixpoint of φ in N holds from i on for ever
  pub recurring-sound : (N : Formula → Bool) {φ : Formula} → Plain φ → (i : ℕ)
      → ((ψ : Formula) → Sub ψ φ → T (is_greatest ψ) → T (N ψ) → Always (Holds σ ψ) i)
      → Entails (Holds σ (recurring N φ)) (Holds σ φ) i
  unfolding recurring
  recurring-sound N p i h =
      plain_induction (λ φ. Entails (Holds σ (recurring N φ)) (Holds σ φ) i) (λ c k ik x. x) (λ c n k ik x. x) (λ a e k ik x. e (suc k) (le_step ik) x) p
      (λ o a b s t p q e f k ik.
      recurring_op-elim (N (bin o a b)) o a b (recurring N a) (recurring N b) k t (λ l n. h (bin o a b) s l n k ik)
      (entails_later ik e) (entails_later ik f))
