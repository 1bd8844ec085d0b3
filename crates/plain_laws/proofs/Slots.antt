-- The places of the forms.
use Prim.Native.Nat.{ℕ, ◌+◌, ◌*◌, ◌<◌, ◌≤◌}
use mathlib.Core.Path.{◌≡◌, refl}
use mathlib.Core.Bool.{Bool, true, false}
use native.Mathlib.Omega.{arith}
use Rattle.plain_laws.specs.Forms.{slot_of}

-- different forms have different slots
pub slot_same : (p q : Bool) (i j : ℕ) → slot_of p i ≡ slot_of q j → (p ≡ q) × (i ≡ j)
slot_same true true i j e = (refl, omega arith)
slot_same true false i j e = absurd (omega arith)
slot_same false true i j e = absurd (omega arith)
slot_same false false i j e = (refl, omega arith)

pub slot_bounds : (p : Bool) (j : ℕ) → (2 * j ≤ slot_of p j) × (slot_of p j < 2 * j + 2)
slot_bounds true j = (omega arith, omega arith)
slot_bounds false j = (omega arith, omega arith)
