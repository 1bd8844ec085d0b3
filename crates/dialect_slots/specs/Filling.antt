-- The draft of a conversion: two slots for each word of the table, the second of them for the word's own conversion.
use Rattle.std.specs.Prelude.{ℕ, ◌+◌, ◌*◌, ◌<◌, ◌≤◌, ◌≡◌, true, List, length}
use Rattle.logic.specs.Formula.{Formula}
use Rattle.transforms.specs.Dialect.{dialect}
use Rattle.std.specs.Prelude.{Ok}
use Rattle.table.specs.Table.{formulas, formula_of}
use Rattle.table.specs.Checks.{checked}
use Rattle.drafts.specs.Drafted.{Drafted}
use Rattle.source.specs.Source.{Inside}

-- the conversion of word j
abbrev pub form_of : List ℕ → ℕ → Formula
form_of t j = dialect (formula_of (formulas t) j)

-- its slot
abbrev pub slot_of : ℕ → ℕ
slot_of j = 2 * j + 1

-- an accepted table, and a draft with slots for its words
pub record Room (t d : List ℕ) : Type 0 where
  pub accepted : checked true 16383 t ≡ Ok tt
  pub slots : 2 * length t + 2 ≤ length d
  pub few : length d ≤ 1048576

-- the conversions of the first n words stand
pub record Filled (t d : List ℕ) (n : ℕ) : Type 0 where
  pub form : (j : ℕ) → 0 < j → j ≤ n → Drafted d (form_of t j) (slot_of j)

-- those of the words before word j stand
pub record Next (t d : List ℕ) (j : ℕ) : Type 0 where
  pub room : Room t d
  pub word : Inside t j
  pub before : (i : ℕ) → 0 < i → i < j → Drafted d (form_of t i) (slot_of i)
