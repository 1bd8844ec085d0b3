-- The three fields of a slot: their bounds, and that taking a packed slot apart gives them back.
use Prim.Native.Nat.{ℕ, ◌^◌, ◌<◌}
use mathlib.Core.Path.{◌≡◌}
use native.Mathlib.Omega.{arith}
use Rattle.slots.specs.Slot.{kind, left, right, pack}

pub kind-pack : (k l r : ℕ) → l < 2 ^ 20 → r < 2 ^ 20 → kind (pack k l r) ≡ k
unfolding kind pack
kind-pack k l r hl hr = omega arith

pub left_pack : (k l r : ℕ) → l < 2 ^ 20 → r < 2 ^ 20 → left (pack k l r) ≡ l
unfolding left pack
left_pack k l r hl hr = omega arith

pub right_pack : (k l r : ℕ) → r < 2 ^ 20 → right (pack k l r) ≡ r
unfolding right pack
right_pack k l r hr = omega arith
