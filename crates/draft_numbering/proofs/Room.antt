-- The numbers of a turn: the slot at the top of the stack, and the stack's height, over a draft of so many slots.
use Prim.Native.Nat.{ℕ, suc, ◌+◌, ◌-◌, ◌*◌, ◌<◌, ◌≤◌}
use native.Mathlib.Omega.{arith}
use mathlib.Core.Path.{◌≡◌}

pub zero_of : {n : ℕ} → n ≤ 0 → n ≡ 0
zero_of h = omega arith

pub above_one : {n : ℕ} → 0 < n → (n ≡ 1 → ⊥) → 1 < n
above_one h g = omega arith

pub record Low (top height len : ℕ) : Type 0 where
  pub some : 0 < height
  pub below : top + height ≤ len

pub low : {top height len : ℕ} (root : ℕ) → 0 < height → top + height ≤ root + 1 → root < len → Low top height len
low root s l h = record { some = s; below = omega arith }

-- what is left to do: a pop leaves less, by which a slot has its number
pub popped : {top height len : ℕ} → Low top height len → {y z : ℕ} → suc y ≡ z → 2 * y + (len + 1 - (height - 1)) < 2 * z + (len + 1 - height)
popped l e = omega (arith, l.some, l.below)
