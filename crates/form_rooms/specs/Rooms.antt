-- What a form is asked with, in rooms of a size.
use Rattle.std.specs.Prelude.{ℕ, ◌+◌, ◌≤◌, ◌<◌, ◌≡◌, true, List, length}
use Rattle.std.specs.Prelude.{Ok, Err}
use Rattle.table.specs.Limits.{most, plain_limit}
use Rattle.table.specs.Checks.{checked}
use Rattle.table.specs.Numbering.{room}
use Rattle.table.specs.Steps.{fixpoints}
use Rattle.fixpoints.specs.Positions.{Kept}
use Rattle.choosing.specs.Filled.{slots_for, draft_size}

-- the sizes of the local arrays: a position for each word of a plain table, and the slots of a short draft, of a middling one and of any
abbrev pub positions_length : ℕ
positions_length = plain_limit most + 1

abbrev pub short_slots : ℕ
short_slots = 256

abbrev pub middle_slots : ℕ
middle_slots = 1024

abbrev pub most_slots : ℕ
most_slots = slots_for (plain_limit most) most.fixpoints

-- an accepted plain table whose form can be made
pub record Accepted (t : List ℕ) : Type 0 where
  pub limit : ℕ
  pub accepted : checked true limit t ≡ Ok tt
  pub short : limit < positions_length
  pub few : length (fixpoints t) < 32
  pub drafted : draft_size t ≤ most_slots

-- with the positions of its until-like words
pub record Positioned (t positions : List ℕ) (bits : ℕ) : Type 0 where
  pub table : Accepted t
  pub kept : Kept t positions (length t)
  pub bits_are : bits ≡ length (fixpoints t)

-- its drafts have at most so many slots, and its slice counts for at most so many words
pub record Sized (t : List ℕ) (slots : ℕ) (out : List ℕ) (words : ℕ) : Type 0 where
  pub few_slots : draft_size t ≤ slots
  pub few_words : room (length out) ≤ words
