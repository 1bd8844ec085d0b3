-- The classes of a word's states by its kind and its class byte, and the word of a state by its class's bit.
use Rattle.std.specs.Prelude.{ℕ, suc, Bool, ◌&&◌, ◌||◌, cond, List, [], ◌∷◌, map, leb, eqb}
use Rattle.logic.specs.Bit.{bit}
use Rattle.transforms.specs.NormalForm.{keep}
use Rattle.table.specs.Node.{pack}

-- 3, 4 and 7 to 11: neither constant, and, nor or
unfoldable pub is_proper_kind : ℕ → Bool
is_proper_kind k = (leb 3 k && leb k 4) || (leb 7 k && leb k 11)

-- the bit of Sigma of the smallest level with a class of the byte; Pi of that level has the next
unfoldable pub level_bit : ℕ → ℕ
level_bit byte = cond (bit byte 1 || bit byte 2) 1 4

-- the smallest classes by their bits, in rising order
unfoldable pub smallest_bits : ℕ → List ℕ
smallest_bits byte = keep (bit byte) (level_bit byte ∷ suc (level_bit byte) ∷ [])

unfoldable pub class_bits : ℕ → ℕ → List ℕ
class_bits k byte = cond (is_proper_kind k) (smallest_bits byte) []

-- a state of word j: 2 and 5 are the bits of Pi classes
abbrev pub bit_word : ℕ → ℕ → ℕ
bit_word j b = pack (cond (eqb b 2 || eqb b 5) 1 0) b j

-- the states of word j
unfoldable pub own_words : ℕ → ℕ → ℕ → List ℕ
own_words k byte j = map (bit_word j) (class_bits k byte)
