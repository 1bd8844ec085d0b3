-- What a slot of a draft stands for: its word is the formula's operator, over earlier slots that stand for the operands.
-- Slots that nothing leads to may hold anything.
use Rattle.std.specs.Prelude.{ℕ, ◌<◌, ◌≡◌, cond, List, length, get_or}
use Rattle.logic.specs.Formula.{Formula, const, lit, un, bin}
use Rattle.table.specs.Node.{unary_kind, binary_kind}
use Rattle.slots.specs.Slot.{pack}

-- slot i of d is s
pub record SlotIs (d : List ℕ) (i s : ℕ) : Type 0 where
  pub within : i < length d
  pub is : get_or d i 0 ≡ s

-- slot i of d stands for a formula, whose letters fit the field of a word
abbrev pub Drafted : List ℕ → Formula → ℕ → Type 0
Drafted d (const b) i = SlotIs d i (pack (cond b 2 1) 0 0)
Drafted d (lit b p) i = (p < 16384) × SlotIs d i (pack (cond b 3 4) 0 p)
Drafted d (un o a) i = (m : ℕ) × (m < i) × Drafted d a m × SlotIs d i (pack (unary_kind o) 0 m)
Drafted d (bin o a b) i = (l : ℕ) × (r : ℕ) × (l < i) × (r < i) × Drafted d a l × Drafted d b r × SlotIs d i (pack (binary_kind o) l r)
