-- Numbers by cases: on either side of another, and one by one in a range.
use Prim.Native.Nat.{ℕ, zero, suc, ◌+◌, ◌≤◌, ◌<◌}
use mathlib.Core.Path.{◌≡◌, refl, subst}
use lib.ListN.{get_or, replicate}
use mathlib.Core.Logic.{◌⊎◌, inl, inr, ⊎_elim}
use native.Mathlib.Decide.{dec_lt}
use native.Mathlib.Omega.{arith}

pub lt_or_le : (j k : ℕ) → (j < k) ⊎ (k ≤ j)
lt_or_le j k = go (dec_lt j k)
  where
    go : Dec (j < k) → (j < k) ⊎ (k ≤ j)
    go (yes h) = inl h
    go (no h) = inr (omega arith)

-- a list of zeros has 0 everywhere
pub get_or-zeros : (n i : ℕ) → ◌≡◌ {A = ℕ} (get_or (replicate n 0) i 0) 0
get_or-zeros zero i = refl
get_or-zeros (suc n) zero = refl
get_or-zeros (suc n) (suc i) = get_or-zeros n i

-- what holds of each number from a to a + n, one by one
abbrev pub Each : (ℕ → Type 0) → ℕ → ℕ → Type 0
Each P a zero = P a
Each P a (suc n) = P a × Each P (suc a) n

pub in_range : (P : ℕ → Type 0) (a n k : ℕ) → a ≤ k → k ≤ a + n → Each P a n → P k
in_range P a zero k h l e = subst P (omega arith) e
in_range P a (suc n) k h l e =
    ⊎_elim (λ m. in_range P (suc a) n k m (omega arith) e.1) (λ m. subst P (omega arith) e.0) (lt_or_le a k)
