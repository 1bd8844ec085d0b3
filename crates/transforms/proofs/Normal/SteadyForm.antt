-- The steady form φ[M]Π₁: source 002, Lemma 11, and its half of Lemma 18.
use Prim.Native.Nat.{ℕ, suc}
use native.Mathlib.Nat.{le_trans, le_step}
use mathlib.Core.Bool.{Bool, true, false}
use mathlib.Core.Logic.{inl, inr}
use lib.Dec.{T}
use Rattle.logic.specs.Formula.{Formula, Binary, bin, conj, disj, until, weak, release, strong, implies}
use Rattle.logic.specs.Lasso.{Word}
use Rattle.logic.specs.Semantics.{Predicate, Until, Weak, Release, Strong, binary, Holds}
use Rattle.logic.specs.NegationNormalForm.{plain_binary}
use Rattle.transforms.specs.Rewriting.{steady_op, steady}
use Rattle.transforms.specs.NormalForm.{is_least}
use Rattle.transforms.specs.Subformula.{Sub}
use Rattle.transforms.specs.Recurrence.{Eventually, InfinitelyOften, M⊆GF}
use Rattle.transforms.proofs.Normal.Monotonicity.{Entails, binary_mono, entails_later, weak_mono, release_mono}
use Rattle.transforms.proofs.Normal.PlainFormula.{Plain, plain_induction}

-- a W b is a U b where a U b holds again and again, and a R b is a M b where a M b does
until_of_weak : {P Q : Predicate} {i : ℕ} → InfinitelyOften (Until P Q) → Weak P Q i → Until P Q i
until_of_weak {i} io (inl p) =
    let u = io i in
    (u.2.0, le_trans u.1 u.2.1, u.2.2, λ j ij jk. p j ij)
until_of_weak io (inr u) = u

strong_of_release : {P Q : Predicate} {i : ℕ} → InfinitelyOften (Strong P Q) → Release P Q i → Strong P Q i
strong_of_release {i} io (inl q) =
    let u = io i in
    (u.2.0, le_trans u.1 u.2.1, u.2.2, λ j ij jk. q j ij)
strong_of_release io (inr u) = u

module _ (σ : Word) where
  -- an operator entails what it becomes, if a least fixpoint is chosen
  steady_op_intro : (m : Bool) (o : Binary) (a b a' b' : Formula) (i : ℕ) → T (plain_binary o) → (T (is_least (bin o a b)) → T m)
      → binary o (Holds σ a') (Holds σ b') i → Holds σ (steady_op m o a' b') i
  steady_op_intro m conj a b a' b' i t h x = x
  steady_op_intro m disj a b a' b' i t h x = x
  steady_op_intro true until a b a' b' i t h x = inr x
  steady_op_intro false until a b a' b' i t h x = h tt
  steady_op_intro m weak a b a' b' i t h x = x
  steady_op_intro m release a b a' b' i t h x = x
  steady_op_intro true strong a b a' b' i t h x = inr x
  steady_op_intro false strong a b a' b' i t h x = h tt
  steady_op_intro m implies a b a' b' i t h x = absurd t

  -- what an operator becomes entails it over operands that entail it, if a chosen least fixpoint holds again and again
  steady_op-elim : (m : Bool) (o : Binary) (a b a' b' : Formula) (i : ℕ) → T (plain_binary o)
      → (T (is_least (bin o a b)) → T m → InfinitelyOften (Holds σ (bin o a b))) → Entails (Holds σ a') (Holds σ a) i
      → Entails (Holds σ b') (Holds σ b) i → Holds σ (steady_op m o a' b') i → Holds σ (bin o a b) i
  steady_op-elim m conj a b a' b' i t h f g x = binary_mono conj tt f g x
  steady_op-elim m disj a b a' b' i t h f g x = binary_mono disj tt f g x
  steady_op-elim true until a b a' b' i t h f g x = until_of_weak (h tt tt) (weak_mono f g x)
  steady_op-elim false until a b a' b' i t h f g x = absurd x
  steady_op-elim m weak a b a' b' i t h f g x = binary_mono weak tt f g x
  steady_op-elim m release a b a' b' i t h f g x = binary_mono release tt f g x
  steady_op-elim true strong a b a' b' i t h f g x = strong_of_release (h tt tt) (release_mono f g x)
  steady_op-elim false strong a b a' b' i t h f g x = absurd x
  steady_op-elim m implies a b a' b' i t h f g x = absurd t

  -- what an operator becomes, with fewer chosen, entails what it becomes with more
  steady_op_mono : (m m' : Bool) (o : Binary) (a b a' b' : Formula) (i : ℕ) → T (plain_binary o) → (T m → T m')
      → Entails (Holds σ a) (Holds σ a') i → Entails (Holds σ b) (Holds σ b') i → Holds σ (steady_op m o a b) i
      → Holds σ (steady_op m' o a' b') i
  steady_op_mono m m' conj a b a' b' i t h f g x = binary_mono conj tt f g x
  steady_op_mono m m' disj a b a' b' i t h f g x = binary_mono disj tt f g x
  steady_op_mono true true until a b a' b' i t h f g x = weak_mono f g x
  steady_op_mono true false until a b a' b' i t h f g x = h tt
  steady_op_mono false m' until a b a' b' i t h f g x = absurd x
  steady_op_mono m m' weak a b a' b' i t h f g x = binary_mono weak tt f g x
  steady_op_mono m m' release a b a' b' i t h f g x = binary_mono release tt f g x
  steady_op_mono true true strong a b a' b' i t h f g x = release_mono f g x
  steady_op_mono true false strong a b a' b' i t h f g x = h tt
  steady_op_mono false m' strong a b a' b' i t h f g x = absurd x
  steady_op_mono m m' implies a b a' b' i t h f g x = absurd t

  -- Lemma 11.1: φ entails φ[M]Π₁ from i on, if M has every least fixpoint of φ that holds somewhere from i on
  pub steady-complete : (M : Formula → Bool) {φ : Formula} → Plain φ → (i : ℕ)
      → ((ψ : Formula) → Sub ψ φ → T (is_least ψ) → Eventually (Holds σ ψ) i → T (M ψ))
      → Entails (Holds σ φ) (Holds σ (steady M φ)) i
  unfolding steady
  steady-complete M p i h =
      plain_induction (λ φ. Entails (Holds σ φ) (Holds σ (steady M φ)) i) (λ c k ik x. x) (λ c n k ik x. x) (λ a e k ik x. e (suc k) (le_step ik) x) p
      (λ o a b s t p q e f k ik x.
      steady_op_intro (M (bin o a b)) o a b (steady M a) (steady M b) k t (λ l. h (bin o a b) s l (k, ik, x))
      (binary_mono o t (entails_later ik e) (entails_later ik f) x))

  -- Lemma 11.2: φ[M]Π₁ entails φ, if every least fixpoint of φ in M holds again and again
  pub steady-sound : (M : Formula → Bool) {φ : Formula} → Plain φ → M⊆GF σ M φ → (i : ℕ) → Holds σ (steady M φ) i → Holds σ φ i
  unfolding steady
  steady-sound M p h =
      plain_induction (λ φ. (i : ℕ) → Holds σ (steady M φ) i → Holds σ φ i) (λ c i x. x) (λ c n i x. x) (λ a e i x. e (suc i) x) p
      (λ o a b s t p q e f i.
      steady_op-elim (M (bin o a b)) o a b (steady M a) (steady M b) i t (h (bin o a b) s) (λ k ik. e k) (λ k ik. f k))

  -- Lemma 18: φ[M]Π₁ is monotone in M
  pub steady_mono : (M M' : Formula → Bool) {φ : Formula} → Plain φ → ((ψ : Formula) → Sub ψ φ → T (M ψ) → T (M' ψ)) → (i : ℕ)
      → Holds σ (steady M φ) i → Holds σ (steady M' φ) i
  unfolding steady
  steady_mono M M' p h =
      plain_induction (λ φ. (i : ℕ) → Holds σ (steady M φ) i → Holds σ (steady M' φ) i) (λ c i x. x) (λ c n i x. x) (λ a e i x. e (suc i) x) p
      (λ o a b s t p q e f i.
      steady_op_mono (M (bin o a b)) (M' (bin o a b)) o (steady M a) (steady M b) (steady M' a) (steady M' b) i t (h (bin o a b) s)
      (λ k ik. e k) (λ k ik. f k))
