-- A masked and shifted byte keeps all its bits, and fits below bit 6 with another masked one.
use Prim.Native.Nat.{ℕ, ◌*◌, ◌%◌, ◌<◌}
use mathlib.Core.Path.{◌≡◌, ap}
use native.Mathlib.Nat.{mul-le-mul_right, mod-eq_of_lt}
use native.Mathlib.Omega.{arith}
use lib.Bits.{bit_and, bit_or, and_le_r, or_lt}

module _ (m kept lower k : ℕ) (below : kept < 64) (shifted : lower * k < 64) where
  moved_lt : bit_and m lower * k < 64
  moved_lt = omega (arith, mul-le-mul_right k (and_le_r m lower))

  pub moved : bit_or (bit_and m kept) (bit_and m lower * k % 256) ≡ bit_or (bit_and m kept) (bit_and m lower * k)
  moved = ap (bit_or (bit_and m kept)) (mod-eq_of_lt (omega (arith, moved_lt)))

  pub joined_lt : bit_or (bit_and m kept) (bit_and m lower * k % 256) < 64
  joined_lt = rw moved (or_lt 6 (bit_and m kept) (bit_and m lower * k) (omega (arith, and_le_r m kept)) moved_lt)
