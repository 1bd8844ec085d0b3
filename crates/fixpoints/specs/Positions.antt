-- The bit of each until-like word in the number of a choice, and the positions that are kept of them.
use Rattle.std.specs.Prelude.{ℕ, suc, ◌<◌, ◌≡◌, true, List, length, get_or, take}
use Rattle.transforms.specs.NormalForm.{keep}
use Rattle.std.specs.Prelude.{Ok}
use Rattle.table.specs.Checks.{checked}
use Rattle.table.specs.Steps.{fixpoints}
use Rattle.table.specs.StepChecks.{is_fixpoint_word}

-- document 01: "Number the until-like words of the plain table from bit 0 upward, in rising word number."
-- The bit number of the word with i words before it: how many of those are until-like
abbrev pub bit_of : List ℕ → ℕ → ℕ
bit_of t i = length (keep is_fixpoint_word (take i t))

-- an accepted plain table, of whose choices each is a number of 32 bits, and a place for the position of each word
pub record Keepable (t positions : List ℕ) : Type 0 where
  pub limit : ℕ
  pub accepted : checked true limit t ≡ Ok tt
  pub few : length (fixpoints t) < 32
  pub long : length t < length positions

-- the bit numbers of the first n words are kept, each at its word's number, and fit the 32 bits of a choice
pub record Kept (t positions : List ℕ) (n : ℕ) : Type 0 where
  pub long : length t < length positions
  pub few : bit_of t n < 32
  pub position : (i : ℕ) → i < n → get_or positions (suc i) 0 ≡ bit_of t i
