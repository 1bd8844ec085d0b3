-- Of m things, each with a number below k and no two with the same, there are at most k.
use Prim.Native.Nat.{ℕ, zero, suc, ◌≤◌, ◌<◌, zero-le, suc-le-suc}
use native.Mathlib.Omega.{arith}
use mathlib.Core.Path.{◌≡◌, refl, sym, ◌∙◌}
use mathlib.Core.Bool.{Bool, true, false, cond}
use lib.Dec.{eqb}
use borrow.Author.Tests.{eqb-true, eqb-false}

-- y stands in for k
moved : ℕ → ℕ → ℕ → ℕ
moved k y x = cond (eqb x k) y x

moved_below : (k y x : ℕ) → x < suc k → y < suc k → (x ≡ y → ⊥) → moved k y x < k
unfolding moved
moved_below k y x h l f = go (eqb x k) refl
  where
    go : (b : Bool) → eqb x k ≡ b → cond b y x < k
    go true e = omega (arith, eqb-true x k e, f)
    go false e = omega (arith, eqb-false x k e)

moved_apart : (k y x x' : ℕ) → (x ≡ y → ⊥) → (x' ≡ y → ⊥) → moved k y x ≡ moved k y x' → x ≡ x'
unfolding moved
moved_apart k y x x' f g q = go (eqb x k) (eqb x' k) refl refl q
  where
    go : (b c : Bool) → eqb x k ≡ b → eqb x' k ≡ c → cond b y x ≡ cond c y x' → x ≡ x'
    go true true d e q = eqb-true x k d ∙ sym (eqb-true x' k e)
    go true false d e q = absurd (g (sym q))
    go false true d e q = absurd (f q)
    go false false d e q = q

pub pigeonhole : (k m : ℕ) (f : (i : ℕ) → i < m → ℕ)
    → ((i : ℕ) (h : i < m) → f i h < k) → ((i j : ℕ) (h : i < m) (l : j < m) → f i h ≡ f j l → i ≡ j) → m ≤ k
pigeonhole zero zero f below apart = zero-le
pigeonhole zero (suc m) f below apart = absurd (omega (arith, below 0 (suc-le-suc zero-le)))
pigeonhole (suc k) zero f below apart = zero-le
pigeonhole (suc k) (suc m) f below apart =
    let end : m < suc m = omega arith in
    let more : (i : ℕ) → i < m → i < suc m = λ i h. omega arith in
    let other : (i : ℕ) (h : i < m) → f i (more i h) ≡ f m end → ⊥ = λ i h e. omega (arith, apart i m (more i h) end e) in
    suc-le-suc (
    pigeonhole k m (λ i h. moved k (f m end) (f i (more i h)))
    (λ i h. moved_below k (f m end) (f i (more i h)) (below i (more i h)) (below m end) (other i h))
    (λ i j h l e. apart i j (more i h) (more j l) (moved_apart k (f m end) (f i (more i h)) (f j (more j l)) (other i h) (other j l) e))
    )
