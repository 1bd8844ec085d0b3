-- The draft of a plain form: what filling some of its slots makes of a draft.
use Rattle.std.specs.Prelude.{ℕ, ◌+◌, ◌*◌, ◌<◌, ◌≤◌, ◌≡◌, Bool, List, length, get_or}
use Rattle.logic.specs.Formula.{Formula}
use Rattle.drafts.specs.Drafted.{Drafted}
use Rattle.source.specs.Source.{Inside}
use Rattle.plain_laws.specs.Forms.{form_of, slot_of}

-- the constants stand, and a slot that is filled stands for its form
pub record Filled (t d : List ℕ) : Type 0 where
  pub constant : (p : Bool) → Drafted d (form_of p t 0) (slot_of p 0)
  pub form : (p : Bool) (j : ℕ) → (get_or d (slot_of p j) 0 ≡ 0 → ⊥) → Drafted d (form_of p t j) (slot_of p j)

-- what a form is asked with
pub record Asked (t d : List ℕ) (j : ℕ) : Type 0 where
  pub word : Inside t j
  pub slots : 2 * length t + 2 ≤ length d
  pub few : length d ≤ 1048576
  pub filled : Filled t d

-- d becomes e, and the form of word j, or of its denial, stands at slot r: slots that stood still stand, and those of later words are as they were
pub record Formed (p : Bool) (t : List ℕ) (j : ℕ) (d e : List ℕ) (r : ℕ) : Type 0 where
  pub drafted : Drafted e (form_of p t j) r
  pub below : r < 2 * j + 2
  pub inside : r < length d
  pub long : length e ≡ length d
  pub filled : Filled t e
  pub kept : (φ : Formula) (i : ℕ) → Drafted d φ i → Drafted e φ i
  pub later : (i : ℕ) → 2 * j + 2 ≤ i → get_or e i 0 ≡ get_or d i 0
