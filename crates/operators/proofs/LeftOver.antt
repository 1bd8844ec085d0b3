-- The kinds that stand for no operator.
use Prim.Native.Nat.{ℕ, zero, suc, ◌+◌, ◌≤◌}
use mathlib.Core.Path.{◌≡◌, refl}
use mathlib.Core.Bool.{false}
use native.Mathlib.Omega.{arith}
use native.Mathlib.Nat.{add-zero}
use lib.ListN.{get_or-eq_default}
use Rattle.table.specs.Node.{none, shapes, shape}
use Rattle.operators.specs.Looped.{constantly, meaning}

-- a number that is none of the n numbers from a on, one by one
abbrev Avoids : ℕ → ℕ → ℕ → Type 0
Avoids zero a k = Unit
Avoids (suc n) a k = Avoids n a k × (k ≡ a + n → ⊥)

past : (n a k : ℕ) → Avoids n a k → a ≤ k → a + n ≤ k
past zero a k h l = rw add-zero l
past (suc n) a k h l = let m = past n a k h.0 l in omega (arith, h.1)

-- kinds 2 to 15 left out, what is left stands for false or for nothing
pub left_over : (k : ℕ) → Avoids 14 2 k → constantly false ≡ meaning (shape k)
unfolding shape
left_over zero h = refl
left_over (suc zero) h = refl
left_over (suc (suc k)) h = rw (get_or-eq_default shapes none {n = suc (suc k)} (past 14 2 (suc (suc k)) h (omega arith)))
