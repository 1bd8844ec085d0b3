-- A choice's draft while it is filled: which forms of which words stand at their slots.
use Rattle.std.specs.Prelude.{ℕ, suc, ◌+◌, ◌*◌, ◌^◌, ◌<◌, ◌≤◌, ◌≡◌, Bool, true, List, length, get_or}
use Rattle.std.specs.Prelude.{Ok}
use Rattle.table.specs.Steps.{fixpoints}
use Rattle.table.specs.Checks.{checked}
use Rattle.slots.specs.Slot.{pack}
use Rattle.drafts.specs.Drafted.{SlotIs}
use Rattle.word_slots.specs.WordSlots.{Slotted}
use Rattle.logic.specs.Bit.{bit}
use Rattle.fixpoints.specs.Positions.{bit_of, Kept}

-- the most slots that the draft of a choice can have, of n words of which k are until-like
abbrev pub slots_for : ℕ → ℕ → ℕ
slots_for n k = 5 * n + 3 * k + 5

abbrev pub draft_size : List ℕ → ℕ
draft_size t = slots_for (length t) (length (fixpoints t))

-- the two constants, and the slots of the first n words, each chosen or not
pub record Laid (t d : List ℕ) (n : ℕ) : Type 0 where
  pub false_slot : SlotIs d 0 (pack 1 0 0)
  pub true_slot : SlotIs d 1 (pack 2 0 0)
  pub slots : (i : ℕ) → i < n → (chosen : Bool) × Slotted (get_or t i 0) (suc i) chosen d

-- the first n words by choice c: until-like ones are chosen by their bits
pub record Chosen (t : List ℕ) (c : ℕ) (d : List ℕ) (n : ℕ) : Type 0 where
  pub laid : Laid t d (length t)
  pub slots : (i : ℕ) → i < n → Slotted (get_or t i 0) (suc i) (bit c (bit_of t i)) d

-- an accepted plain table, and a draft that is long enough for each of its choices, and whose slots fit the fields of a slot
pub record Roomy (t d : List ℕ) : Type 0 where
  pub limit : ℕ
  pub accepted : checked true limit t ≡ Ok tt
  pub long : draft_size t ≤ length d
  pub narrow : length d ≤ 2 ^ 20

-- with its positions, and its words laid out
pub record Fillable (t positions d : List ℕ) : Type 0 where
  pub room : Roomy t d
  pub kept : Kept t positions (length t)
  pub laid : Laid t d (length t)
