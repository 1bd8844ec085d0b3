-- The seven slots of word j: 7j to 7j + 2, the word's combination by Sigma-1, Pi-1 and a class of the second level; 7j + 3, the inner word that the moves of U, W, R
-- and M need; 7j + 4 to 7j + 6, the word moved by those classes.
use Rattle.std.specs.Prelude.{ℕ, ◌+◌, ◌*◌, List, Some}
use Rattle.std.specs.Option.{option_and}
use Rattle.slots.specs.Slot.{pack}
use Rattle.state_slots.specs.Slots.{three, state_slot, class_slots}
use Rattle.word_states.specs.declared.Held.{Held}

-- a constant
abbrev pub constant_slots : List ℕ → (j k : ℕ) → List ℕ
constant_slots d j k = three (three d (7 * j) (pack k 0 0) (pack k 0 0) (pack k 0 0)) (7 * j + 4) (pack k 0 0) (pack k 0 0) (pack k 0 0)

-- a kind over the slots from l and from r on
abbrev pub over_slots : List ℕ → (i k l r : ℕ) → List ℕ
over_slots d i k l r = three d i (pack k l r) (pack k (l + 1) (r + 1)) (pack k (l + 2) (r + 2))

-- and, or
abbrev pub junction_slots : List ℕ → (j k l r : ℕ) → List ℕ
junction_slots d j k l r = over_slots (over_slots d (7 * j) k (7 * l) (7 * r)) (7 * j + 4) k (7 * l + 4) (7 * r + 4)

-- the slots of a word's classes from i on
abbrev pub held_slots : List ℕ → (i : ℕ) → Held → (x y z : ℕ) → List ℕ
held_slots d i h x y z = class_slots d i (option_and h.sigma (Some x)) (option_and h.pi (Some y)) (option_and h.further (Some z))

-- the states of a word
abbrev pub state_slots : List ℕ → ℕ → Held → List ℕ
state_slots d j h = class_slots d (7 * j) (state_slot h.sigma) (state_slot h.pi) (state_slot h.further)

-- a letter, which moves to the constant c
abbrev pub letter_slots : List ℕ → ℕ → Held → ℕ → List ℕ
letter_slots d j h c = held_slots (state_slots d j h) (7 * j + 4) h (pack c 0 0) (pack c 0 0) (pack c 0 0)
