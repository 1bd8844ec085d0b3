-- Samples are alike exactly where every driven bit is the same; where they are not, there is a driven bit that differs.
use Prim.Native.Nat.{ℕ, zero, suc}
use mathlib.Core.Path.{◌≡◌, refl, sym, subst}
use mathlib.Core.Bool.{Bool, true, false, ◌&&◌, beq}
use mathlib.Core.Logic.{inl, inr}
use native.Mathlib.Nat.{eq-or-lt_of_le}
use native.Mathlib.Omega.{arith}
use Rattle.logic.specs.Lasso.{letter_in}
use Rattle.logic.specs.Driven.{Driven}
use Rattle.agreement.specs.Comparing.{alike}

both_true : (a b : Bool) → a && b ≡ true → (a ≡ true) × (b ≡ true)
both_true true b e = (refl, e)
both_true false b e = (e, absurd (let z : ◌≡◌ {A = ℕ} 0 1 = cc in omega arith))

same_true : (a b : Bool) → beq a b ≡ true → a ≡ b
same_true true true e = refl
same_true true false e = sym e
same_true false true e = e
same_true false false e = refl

differ-false : (a b : Bool) → beq a b ≡ false → a ≡ b → ⊥
differ-false true true e h = let z : ◌≡◌ {A = ℕ} 0 1 = cc in omega arith
differ-false true false e h = let z : ◌≡◌ {A = ℕ} 0 1 = cc in omega arith
differ-false false true e h = let z : ◌≡◌ {A = ℕ} 0 1 = cc in omega arith
differ-false false false e h = let z : ◌≡◌ {A = ℕ} 0 1 = cc in omega arith

beq_same : (a b : Bool) → a ≡ b → beq a b ≡ true
beq_same true true h = refl
beq_same true false h = sym h
beq_same false true h = h
beq_same false false h = refl

module _ (v w : ℕ) where
  pub alike-bits : (k : ℕ) → alike k v w ≡ true → (n : ℕ) → Driven k n → letter_in v n ≡ letter_in w n
  unfolding alike
  alike-bits zero e n d = absurd (omega (arith, d.0, d.1))
  alike-bits (suc k) e n d =
      let s = both_true (alike k v w) _ e in
      elim (eq-or-lt_of_le d.1) [
        | inl h ↦ subst (λ (n : ℕ). letter_in v n ≡ letter_in w n) (sym h) (same_true _ _ s.1)
        | inr l ↦ alike-bits k s.0 n (d.0, omega arith)
      ]

  pub bits-alike : (k : ℕ) → ((n : ℕ) → Driven k n → letter_in v n ≡ letter_in w n) → alike k v w ≡ true
  unfolding alike
  bits-alike zero h = refl
  bits-alike (suc k) h =
      rw (bits-alike k (λ n d. h n (d.0, omega (arith, d.1)))) (beq_same _ _ (h (suc k) (omega arith, omega arith)))

  -- a driven bit that differs
  pub unlike_bit : (k : ℕ) → alike k v w ≡ false → (n : ℕ) × Driven k n × (letter_in v n ≡ letter_in w n → ⊥)
  unfolding alike
  unlike_bit zero e = absurd (let z : ◌≡◌ {A = ℕ} 0 1 = cc in omega arith)
  unlike_bit (suc k) e = go (alike k v w) (unlike_bit k) refl e
    where
      go : (b : Bool) → (alike k v w ≡ false → (n : ℕ) × Driven k n × (letter_in v n ≡ letter_in w n → ⊥)) → alike k v w ≡ b → b && beq (letter_in v (suc k)) (letter_in w (suc k)) ≡ false
          → (n : ℕ) × Driven (suc k) n × (letter_in v n ≡ letter_in w n → ⊥)
      go true u a f = (suc k, (omega arith, omega arith), differ-false _ _ f)
      go false u a f = let b = u a in (b.0, (b.1.0, omega (arith, b.1.1)), b.2)
