-- The draft of the start: each word of the table as the combination of its states.
use Rattle.std.specs.Prelude.{ℕ, ◌+◌, ◌*◌, ◌<◌, ◌≤◌, ◌≡◌, true, List, length, None}
use Rattle.std.specs.Prelude.{Ok}
use Rattle.logic.specs.Formula.{Formula}
use Rattle.table.specs.Checks.{checked}
use Rattle.automata_laws.specs.StateClass.{every}
use Rattle.automata_laws.specs.FormulaAutomaton.{combination}
use Rattle.state_classes.specs.Kept.{word_of, Kept}
use Rattle.drafts.specs.Drafted.{Drafted}
use Rattle.source.specs.Source.{Inside}
use Rattle.state_slots.specs.Slots.{state_slot, class_slots}
use Rattle.word_states.specs.declared.Held.{Held}
use Rattle.word_states.specs.States.{shown}

-- the slots of a proper word
abbrev pub state_slots : List ℕ → ℕ → Held → List ℕ
state_slots d j h = class_slots d (3 * j) (state_slot h.sigma) (state_slot h.pi) None

-- an accepted table, what is kept of it, and a draft with slots for its words
pub record Room (t bytes starts d : List ℕ) : Type 0 where
  pub accepted : checked true 16383 t ≡ Ok tt
  pub kept : Kept t bytes starts
  pub slots : 3 * length t + 3 ≤ length d
  pub few : length d ≤ 1048576

-- the combination of word j
abbrev pub combination_at : List ℕ → ℕ → Formula
combination_at t j = shown t (combination every (word_of t j))

-- the combinations of the first n words stand
pub record Filled (t d : List ℕ) (n : ℕ) : Type 0 where
  pub word : (j : ℕ) → 0 < j → j ≤ n → Drafted d (combination_at t j) (3 * j + 2)

-- the words before word j
pub record Next (t bytes starts d : List ℕ) (j : ℕ) : Type 0 where
  pub room : Room t bytes starts d
  pub word : Inside t j
  pub before : (i : ℕ) → 0 < i → i < j → Drafted d (combination_at t i) (3 * i + 2)
