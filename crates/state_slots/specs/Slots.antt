-- The slots of a word's states: those of two classes, false where the word is not in the class, and of the or of those that there are, or else of a third.
use Rattle.std.specs.Prelude.{ℕ, ◌+◌, List, set, Option, Some, None, option_map, unwrap_or}
use Rattle.slots.specs.Slot.{pack}

abbrev pub three : List ℕ → (i x y z : ℕ) → List ℕ
three d i x y z = set (set (set d i x) (i + 1) y) (i + 2) z

-- the letter of a state's number
abbrev pub state_slot : Option ℕ → Option ℕ
state_slot n = option_map (pack 3 0) n

abbrev pub given_slot : Option ℕ → ℕ
given_slot x = unwrap_or x (pack 1 0 0)

-- the or of the slots i and i + 1 where both are given, or the one that is
abbrev pub joined_slot : ℕ → (first second third : Option ℕ) → ℕ
joined_slot i (Some x) (Some y) third = pack 6 i (i + 1)
joined_slot i (Some x) None third = x
joined_slot i None (Some y) third = y
joined_slot i None None third = given_slot third

abbrev pub class_slots : List ℕ → ℕ → (first second third : Option ℕ) → List ℕ
class_slots d i first second third = three d i (given_slot first) (given_slot second) (joined_slot i first second third)
