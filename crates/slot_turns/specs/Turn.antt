-- What numbering needs of a slot next: an operand that has no number yet, the left one first, or else its word.
use Rattle.std.specs.Prelude.{ℕ, zero, suc, ◌<◌, ◌≡◌, List, length, get_or}
use Rattle.table.specs.Node as node
use Rattle.table.specs.Node.{Shape, none, constant, letter, unary, binary, shape}
use Rattle.slots.specs.Slot.{kind, left, right}
use Rattle.slot_turns.specs.declared.Turn.{Turn}
use Rattle.slot_turns.specs.declared.Turn.TheVariants.{Operand, Word}

-- how many operands a word has
abbrev pub arity : Shape → ℕ
arity none = 0
arity (constant b) = 0
arity (letter b) = 0
arity (unary o) = 1
arity (binary o) = 2

-- slot i, where its number is 0, before anything else
abbrev pub needing : ℕ → ℕ → Turn → Turn
needing zero i t = Operand i
needing (suc n) i t = t

-- by the count of operands, with the numbers a and b of the slots in the left and the right field
abbrev pub turn_by : ℕ → ℕ → ℕ → ℕ → Turn
turn_by zero s a b = Word (node.pack (kind s) 0 (right s))
turn_by (suc zero) s a b = needing b (right s) (Word (node.pack (kind s) 0 b))
turn_by (suc (suc n)) s a b = needing a (left s) (needing b (right s) (Word (node.pack (kind s) a b)))

unfoldable pub turn_of : ℕ → List ℕ → Turn
turn_of s numbers = turn_by (arity (shape (kind s))) s (get_or numbers (left s) 0) (get_or numbers (right s) 0)

-- the number of slot i is there, and fits the field of a word
pub record Slotted (numbers : List ℕ) (i : ℕ) : Type 0 where
  pub within : i < length numbers
  pub small : get_or numbers i 0 < 16384

-- the fields l and r of a slot are what its kind k has
pub record Turnable (k l r : ℕ) (numbers : List ℕ) : Type 0 where
  pub some : 0 < k
  pub known : k < 16
  pub letter : arity (shape k) ≡ 0 → r < 16384
  pub last : 0 < arity (shape k) → Slotted numbers r
  pub first : 1 < arity (shape k) → Slotted numbers l
