-- A text, the room to read it in, and what was read.
use Rattle.std.specs.Prelude.{ℕ, ◌≤◌, ◌<◌, ◌≡◌, List, length, Result, Ok, Err}
use Rattle.std.proofs.Math.Option.{none, some}
use Rattle.logic.specs.Formula.{Formula}
use Rattle.table.specs.Numbering.{table_of}
use Rattle.placing.specs.State as draft
use Rattle.grammar.specs.Reader.{reading_of, departure_of}

-- a text is at most so many bytes long
abbrev pub most_bytes : ℕ
most_bytes = 1024

-- a text that is not too long, a stack that is long enough, and no word yet
pub record Fresh (text stack : List ℕ) (s : draft.State) : Type 0 where
  pub short : length text ≤ most_bytes
  pub long : length stack ≡ 1025
  pub wide : length s.out ≡ 1025
  pub numbered : draft.Numbered s
  pub empty : draft.count s ≡ 0

-- a text was read: it departs from the grammar at byte r, or is the rule whose words stand there
pub record Parsed (text : List ℕ) (s : draft.State) (r : ℕ) : Type 0 where
  pub numbered : draft.Numbered s
  pub departs : 0 < r → (reading_of text ≡ none) × (r ≡ departure_of text)
  pub reads : r ≡ 0 → (φ : Formula) × (reading_of text ≡ some φ) × (draft.written s ≡ table_of φ)

-- what is said of the place that an Err is, 0 where there is none
abbrev pub OkOrPlace : (ℕ → Type 0) → Result (Unit {0}) ℕ → Type 0
OkOrPlace P (Ok u) = P 0
OkOrPlace P (Err n) = (0 < n) × P n
