-- The Bool function of specs/Truth.antt answers what the semantics says, so truth over a lasso is decided.
-- U, M, W, R are one fixpoint, least or greatest: a M b is b U (a and b), and a R b is b W (a and b).
use Prim.Native.Nat.{ℕ, suc, ◌+◌, ◌≤◌, ◌<◌}
use mathlib.Core.Path.{◌≡◌, refl, sym, ap₂, subst}
use mathlib.Core.Bool.{Bool, true, false, ◌&&◌}
use mathlib.Core.Logic.Iff
use mathlib.Core.Logic.{◌↔◌, ◌⊎◌, inl, inr}
use native.Mathlib.Nat.{le_refl, eq-or-lt_of_le}
use native.Mathlib.Omega.{arith}
use lib.Dec.{T, T_not, not_T}
use Rattle.logic.specs.Formula.{Formula, Unary, Binary, const, lit, un, bin, next, neg, finally, globally, conj, disj, until, weak, release, strong, implies}
use Rattle.logic.specs.Lasso.{Lasso, letter_in, place, word}
use Rattle.logic.specs.Semantics.{Predicate, Until, Strong, Constant, unary, binary, Holds}
use Rattle.logic.specs.Truth.{Sequence, fixpoint, across, applied, unary_operation, binary_operation, truth}
use Rattle.logic.proofs.Tests.{T_and, T_or, T-implies, T-beq, T-decided, ⊎-iff, →-iff}
use Rattle.logic.proofs.Lasso.Sequence.{At, Periodic, Fixpoint, sweep_future}
use Rattle.logic.proofs.Lasso.Period.{size, period, periodic, truth-place}

-- equal operands, equal fixpoints
fixpoint_iff : {G H P Q : Predicate} (c : Bool) → ((k : ℕ) → G k ↔ H k) → ((k : ℕ) → P k ↔ Q k) → (i : ℕ) → Fixpoint G P c i ↔ Fixpoint H Q c i
fixpoint_iff c g p i =
    ⊎-iff
    (λ u. (u.0, u.1, (g u.0).0 u.2, λ j a b. (p j).0 (u.3 j a b)), λ u. (u.0, u.1, (g u.0).1 u.2, λ j a b. (p j).1 (u.3 j a b)))
    (Iff.and Iff.rfl (λ t j a. (p j).0 (t j a), λ t j a. (p j).1 (t j a)))

-- the least one, and the greatest one
least : {A B : Type 0} → (A ⊎ (T false × B)) ↔ A
least = (λ w. elim w [ inl a ↦ a | inr v ↦ absurd v.0 ], inl)

greatest : {A B : Type 0} → (A ⊎ (T true × B)) ↔ (B ⊎ A)
greatest = (λ w. elim w [ inl a ↦ inr a | inr v ↦ inl v.1 ], λ w. elim w [ inl b ↦ inr (tt, b) | inr a ↦ inl a ])

strong-until : (P Q : Predicate) (i : ℕ) → Until Q (λ k. P k × Q k) i ↔ Strong P Q i
strong-until P Q i = (
  λ u. (u.0, u.1, u.2.0, λ j a b. elim (eq-or-lt_of_le b) [ inl e ↦ subst Q (sym e) u.2.1 | inr l ↦ u.3 j a l ]),
  λ u. (u.0, u.1, (u.2, u.3 u.0 u.1 (le_refl u.0)), λ j a b. u.3 j a (omega arith)),
)

module _ (s p L : ℕ) (positive : 0 < p) (whole : s + p ≡ L) where
  module _ (f g : Sequence) (P Q : Predicate) (πf : Periodic s p f) (πg : Periodic s p g)
      (hf : (k : ℕ) → At f k ↔ P k) (hg : (k : ℕ) → At g k ↔ Q k) where
    -- a fixpoint, by what its goal and its keep say of the operands
    fixpoint-holds : (goal keep : Bool → Bool → Bool) (c : Bool) (G K : Predicate)
        → ((k : ℕ) → At (across goal f g) k ↔ G k) → ((k : ℕ) → At (across keep f g) k ↔ K k)
        → (i : ℕ) → T (applied L (fixpoint goal keep c) f g i) ↔ Fixpoint G K c i
    fixpoint-holds goal keep c G K hG hK i =
        Iff.trans
        (sweep_future s p (across goal f g) (across keep f g) c
        (λ k a. ap₂ goal (πf k a) (πg k a)) (λ k a. ap₂ keep (πf k a) (πg k a)) i L positive (omega arith) (omega arith))
        (fixpoint_iff c hG hK i)

    both_hold : (k : ℕ) → T (f k && g k) ↔ (P k × Q k)
    both_hold k = Iff.trans (T_and (f k) (g k)) (Iff.and (hf k) (hg k))

    binary-holds : (o : Binary) (i : ℕ) → T (applied L (binary_operation o) f g i) ↔ binary o P Q i
    binary-holds conj i = both_hold i
    binary-holds disj i = Iff.trans (T_or (f i) (g i)) (⊎-iff (hf i) (hg i))
    binary-holds until i = Iff.trans (fixpoint-holds (λ p q. q) (λ p q. p) false Q P hg hf i) least
    binary-holds weak i = Iff.trans (fixpoint-holds (λ p q. q) (λ p q. p) true Q P hg hf i) greatest
    binary-holds release i =
        Iff.trans (fixpoint-holds ◌&&◌ (λ p q. q) true (λ k. P k × Q k) Q both_hold hg i)
        (Iff.trans greatest (⊎-iff Iff.rfl (strong-until P Q i)))
    binary-holds strong i =
        Iff.trans (fixpoint-holds ◌&&◌ (λ p q. q) false (λ k. P k × Q k) Q both_hold hg i) (Iff.trans least (strong-until P Q i))
    binary-holds implies i = Iff.trans (T-implies (f i) (g i)) (→-iff (hf i) (hg i))

  unary-holds : (o : Unary) (f : Sequence) (P : Predicate) → Periodic s p f → ((k : ℕ) → At f k ↔ P k)
      → (i : ℕ) → T (applied L (unary_operation o) f f i) ↔ unary o P i
  unary-holds next f P πf hf i = hf (suc i)
  unary-holds neg f P πf hf i = Iff.trans (T_not (f i), not_T (f i)) (→-iff (hf i) Iff.rfl)
  unary-holds finally f P πf hf i = binary-holds (λ k. true) f (Constant true) P (λ k a. refl) πf (λ k. Iff.rfl) hf until i
  unary-holds globally f P πf hf i = binary-holds (λ k. false) f (Constant false) P (λ k a. refl) πf (λ k. Iff.rfl) hf release i

pub truth-holds : (r : Lasso) (φ : Formula) (i : ℕ) → T (truth r φ i) ↔ Holds (word r) φ i
unfolding truth
truth-holds r (const b) i = Iff.rfl
truth-holds r (lit b n) i = T-beq b (letter_in (word r i) n)
truth-holds r (un o a) i =
    unary-holds r.start (period r) (size r) (omega (arith, r.inside)) (omega (arith, r.inside))
    o (truth r a) (Holds (word r) a) (periodic r a) (truth-holds r a) i
truth-holds r (bin o a b) i =
    binary-holds r.start (period r) (size r) (omega (arith, r.inside)) (omega (arith, r.inside))
    (truth r a) (truth r b) (Holds (word r) a) (Holds (word r) b) (periodic r a) (periodic r b) (truth-holds r a) (truth-holds r b) o i

pub holds-decided : (r : Lasso) (φ : Formula) (i : ℕ) → Holds (word r) φ i ⊎ (Holds (word r) φ i → ⊥)
holds-decided r φ i =
    (⊎-iff (truth-holds r φ i) (→-iff (truth-holds r φ i) Iff.rfl)).0 (T-decided (truth r φ i))

-- formulas with equal truth
pub same_truth : (r : Lasso) (φ ψ : Formula) (i j : ℕ) → truth r φ i ≡ truth r ψ j → Holds (word r) φ i ↔ Holds (word r) ψ j
same_truth r φ ψ i j e =
    Iff.trans (Iff.symm (truth-holds r φ i)) (Iff.trans (subst T e, subst T (sym e)) (truth-holds r ψ j))

pub holds-periodic : (r : Lasso) (φ : Formula) (i : ℕ) → r.start ≤ i → Holds (word r) φ (i + period r) ↔ Holds (word r) φ i
holds-periodic r φ i h = same_truth r φ φ (i + period r) i (periodic r φ i h)

pub holds-place : (r : Lasso) (φ : Formula) (i : ℕ) → Holds (word r) φ i ↔ Holds (word r) φ (place (size r) r.start i)
holds-place r φ i = same_truth r φ φ i (place (size r) r.start i) (truth-place r φ i)
