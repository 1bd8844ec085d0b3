-- The seven slots of a word that is U, W, R or M.
use Rattle.std.specs.Prelude.{ℕ, ◌+◌, ◌*◌, cond, List, set, is_some}
use Rattle.slots.specs.Slot.{pack}
use Rattle.word_states.specs.declared.Held.{Held}
use Rattle.move_slots.specs.Slots.{held_slots, state_slots}

-- the place among the three of the class that U, W, R or M has
abbrev pub lane : Held → ℕ
lane h = cond (is_some h.sigma) 0 (cond (is_some h.pi) 1 2)

-- U, W, R, M: the outer kind over the right operand moved, and the inner kind over the left operand moved and the state itself
abbrev pub inner_slot : (j i inner l : ℕ) → ℕ
inner_slot j i inner l = pack inner (7 * l + 4 + i) (7 * j + i)

abbrev pub outer_slot : (j i outer r : ℕ) → ℕ
outer_slot j i outer r = pack outer (7 * r + 4 + i) (7 * j + 3)

abbrev pub moved_slots : List ℕ → (j i : ℕ) → Held → (inner outer l r : ℕ) → List ℕ
moved_slots e j i h inner outer l r =
    held_slots (set e (7 * j + 3) (inner_slot j i inner l)) (7 * j + 4) h (outer_slot j i outer r) (outer_slot j i outer r) (outer_slot j i outer r)

abbrev pub fixpoint_slots : List ℕ → ℕ → Held → (inner outer l r : ℕ) → List ℕ
fixpoint_slots d j h inner outer l r = moved_slots (state_slots d j h) j (lane h) h inner outer l r
