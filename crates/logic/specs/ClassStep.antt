-- The class byte of a formula as a function of its operator and its operands' class bytes, by bit operations.
-- Bits, lowest first: Δ₀, Σ₁, Π₁, Δ₁, Σ₂, Π₂, Δ₂.
use Rattle.std.specs.Prelude.{ℕ, ◌*◌, cond}
use Rattle.std.specs.Int.Bits.{bit_and, bit_or}
use Rattle.logic.specs.Formula.{Unary, Binary, next, neg, finally, globally, is_junction, is_least_op, is_greatest_op}

-- a formula with no operand is in every class
abbrev pub atomic_byte : ℕ
atomic_byte = 0x7F

-- a temporal formula is in Δ₁ where it is in Σ₁ or Π₁, and in Δ₂ where it is in Σ₂ or Π₂
unfoldable pub with_delta : ℕ → ℕ
with_delta k = bit_or k (bit_and (bit_or (k * 4) (k * 2)) 0x48)

-- X: Σ₁, Π₁, Σ₂ and Π₂ as the operand
unfoldable pub next_byte : ℕ → ℕ
next_byte a = with_delta (bit_and a 0x36)

-- U and M: Σ₁ and Σ₂ where both operands are; Π₂ where in Σ₁
unfoldable pub least_byte : ℕ → ℕ → ℕ
least_byte a b = with_delta (bit_or (bit_and (bit_and a b) 0x12) (bit_and (bit_and a b) 0x02 * 16))

-- W and R: Π₁ and Π₂ where both operands are; Σ₂ where in Π₁
unfoldable pub greatest_byte : ℕ → ℕ → ℕ
greatest_byte a b = with_delta (bit_or (bit_and (bit_and a b) 0x24) (bit_and (bit_and a b) 0x04 * 4))

-- the hierarchy has no formula with not, F, G or implies, which are written otherwise in plain form
abbrev pub unary_byte : Unary → ℕ → ℕ
unary_byte next a = next_byte a
unary_byte neg a = 0
unary_byte finally a = 0
unary_byte globally a = 0

abbrev pub binary_byte : Binary → ℕ → ℕ → ℕ
binary_byte o a b =
    cond (is_junction o) (bit_and a b)
    (cond (is_least_op o) (least_byte a b)
    (cond (is_greatest_op o) (greatest_byte a b) 0))
