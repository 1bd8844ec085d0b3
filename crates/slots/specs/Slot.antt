-- A slot of a draft: the kind in bits 40 to 43, the left field in the 20 bits below them, the right field in the low 20.
-- An operand is the slot, counted from 0, of an earlier word of the draft; a letter stands in the right field.
use Rattle.std.specs.Prelude.{ℕ, ◌+◌, ◌*◌, ◌/◌, ◌%◌, ◌^◌, ◌≡◌, List, set}

unfoldable pub kind : ℕ → ℕ
kind s = s / 2 ^ 40

unfoldable pub left : ℕ → ℕ
left s = s / 2 ^ 20 % 2 ^ 20

unfoldable pub right : ℕ → ℕ
right s = s % 2 ^ 20

unfoldable pub pack : ℕ → ℕ → ℕ → ℕ
pack k l r = k * 2 ^ 40 + l * 2 ^ 20 + r

-- slot i of the draft d is set to s, and r answers the slot
pub record Stored (d e : List ℕ) (i s r : ℕ) : Type 0 where
  pub set : e ≡ set d i s
  pub answer : r ≡ i
