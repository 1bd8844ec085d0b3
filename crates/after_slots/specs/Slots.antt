-- The three slots of word j: its own, 3j, that of the inner word which the step of a fixpoint needs, and that of its step, 3j + 2. Each is folded over
-- the slots so far.
use Rattle.std.specs.Prelude.{ℕ, ◌+◌, ◌*◌, List, get_or, set}
use Rattle.slots.specs.Slot.{pack}
use Rattle.folding.specs.Folded.{folded_slot}

unfoldable pub stored : List ℕ → ℕ → ℕ → List ℕ
stored d i s = set d i (folded_slot s d)

-- a constant or a letter, and the constant c that it becomes
abbrev pub leaf_slots : List ℕ → (j k letter c : ℕ) → List ℕ
leaf_slots d j k letter c = stored (stored d (3 * j) (pack k 0 letter)) (3 * j + 2) (pack c 0 0)

-- and, or: over the operands' steps
abbrev pub junction_slots : List ℕ → (j k l r : ℕ) → List ℕ
junction_slots d j k l r = stored (stored d (3 * j) (pack k (3 * l) (3 * r))) (3 * j + 2) (pack k (3 * l + 2) (3 * r + 2))

-- X: its step is its operand, whose slot is copied
unfoldable pub copied : List ℕ → (i from : ℕ) → List ℕ
copied d i from = set d i (get_or d from 0)

abbrev pub next_slots : List ℕ → (j r : ℕ) → List ℕ
next_slots d j r = copied (stored d (3 * j) (pack 7 0 (3 * r))) (3 * j + 2) (3 * r)

-- U, W, R, M: the outer kind over the right operand's step, and the inner kind over the left operand's step and the word itself
abbrev pub fixpoint_slots : List ℕ → (j k inner outer l r : ℕ) → List ℕ
fixpoint_slots d j k inner outer l r =
    stored (stored (stored d (3 * j) (pack k (3 * l) (3 * r))) (3 * j + 1) (pack inner (3 * l + 2) (3 * j))) (3 * j + 2) (pack outer (3 * r + 2) (3 * j + 1))
