-- The seven slots of a word that is X.
use Rattle.std.specs.Prelude.{ℕ, ◌+◌, ◌*◌, List, get_or}
use Rattle.word_states.specs.declared.Held.{Held}
use Rattle.move_slots.specs.Slots.{held_slots, state_slots}

-- X, which moves to its operand's combination
abbrev pub operand_slots : List ℕ → ℕ → Held → ℕ → List ℕ
operand_slots e j h r = held_slots e (7 * j + 4) h (get_or e (7 * r) 0) (get_or e (7 * r + 1) 0) (get_or e (7 * r + 2) 0)

abbrev pub next_slots : List ℕ → ℕ → Held → ℕ → List ℕ
next_slots d j h r = operand_slots (state_slots d j h) j h r
