-- The slots of a word in a draft, and what was written of them.
use Rattle.std.specs.Prelude.{ℕ, ◌+◌, ◌*◌, ◌^◌, ◌<◌, ◌≡◌, Bool, false, List, length, get_or}
use Rattle.table.specs.Node.{left, right}
use Rattle.form_places.specs.declared.Rewriting.TheVariants.{Steady, Recurring, Opening}
use Rattle.form_places.specs.Places.{place}
use Rattle.rewriting.specs.Slots.{OpeningSlot, AlwaysSlot, EitherSlot}
use Rattle.chosen_forms.specs.Rewritten.{Rewritten}

-- the slots of word j lie in the draft
pub record Inside (j : ℕ) (d : List ℕ) : Type 0 where
  pub within : place Opening j < length d
  pub fits : place Opening j < 2 ^ 20

-- the five slots of word j, by whether the word is chosen
pub record Slotted (w j : ℕ) (chosen : Bool) (d : List ℕ) : Type 0 where
  pub steady_slot : Rewritten Steady w chosen (place Steady (left w)) (place Steady (right w)) (get_or d (place Steady j) 0)
  pub recurring_slot : Rewritten Recurring w chosen (place Recurring (left w)) (place Recurring (right w)) (get_or d (place Recurring j) 0)
  pub always_slot : AlwaysSlot w (get_or d (5 * j + 2) 0)
  pub either_slot : EitherSlot w (5 * j + 2) (get_or d (5 * j + 3) 0)
  pub opening_slot : OpeningSlot w (5 * j + 3) (get_or d (place Opening j) 0)

-- the two slots of word j that ask whether it is chosen were written, and no other
pub record WordChosen (w j : ℕ) (chosen : Bool) (d e : List ℕ) : Type 0 where
  pub long : length e ≡ length d
  pub others : (i : ℕ) → (i ≡ place Steady j → ⊥) → (i ≡ place Recurring j → ⊥) → get_or e i 0 ≡ get_or d i 0
  pub steady_slot : Rewritten Steady w chosen (place Steady (left w)) (place Steady (right w)) (get_or e (place Steady j) 0)
  pub recurring_slot : Rewritten Recurring w chosen (place Recurring (left w)) (place Recurring (right w)) (get_or e (place Recurring j) 0)

-- the slots of word j were written, and none before them
pub record WordFilled (w j : ℕ) (d e : List ℕ) : Type 0 where
  pub long : length e ≡ length d
  pub before : (i : ℕ) → i < place Steady j → get_or e i 0 ≡ get_or d i 0
  pub slots : Slotted w j false e
