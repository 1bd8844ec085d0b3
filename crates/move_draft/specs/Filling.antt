-- The draft of a move by the sample v: each word of the table combined by three classes, and moved by them.
use Rattle.std.specs.Prelude.{ℕ, zero, suc, ◌+◌, ◌*◌, ◌<◌, ◌≤◌, ◌≡◌, Bool, true, List, length}
use Rattle.logic.specs.Formula.{Formula}
use Rattle.std.specs.Prelude.{Ok}
use Rattle.table.specs.Checks.{checked}
use Rattle.automata_laws.specs.StateClass.{StateClass, sigma₁, pi₁, within}
use Rattle.automata_laws.specs.FormulaAutomaton.{combination, move_of, moved_by}
use Rattle.state_classes.specs.Kept.{word_of, Kept}
use Rattle.drafts.specs.Drafted.{Drafted}
use Rattle.source.specs.Source.{Inside}
use Rattle.class_bits.specs.Levels.{second_class}
use Rattle.word_states.specs.States.{shown}

-- the three classes
abbrev pub class_at : Bool → ℕ → StateClass
class_at upper zero = sigma₁
class_at upper (suc zero) = pi₁
class_at upper (suc (suc i)) = second_class upper

-- the combination of word j by a class, and word j moved by it
abbrev pub combined_by : List ℕ → StateClass → ℕ → Formula
combined_by t Γ j = shown t (combination (within Γ) (word_of t j))

abbrev pub move_by : ℕ → List ℕ → StateClass → ℕ → Formula
move_by v t Γ j = shown t (moved_by Γ (word_of t j) (λ Δ. move_of (word_of t j) Δ v))

-- an accepted table, what is kept of it, and a draft with slots for its words
pub record Room (t bytes starts d : List ℕ) : Type 0 where
  pub accepted : checked true 16383 t ≡ Ok tt
  pub kept : Kept t bytes starts
  pub slots : 7 * length t + 7 ≤ length d
  pub few : length d ≤ 1048576

-- word j stands, combined and moved by each of the three classes
pub record Moved (v : ℕ) (upper : Bool) (t d : List ℕ) (j : ℕ) : Type 0 where
  pub combined : (i : ℕ) → i < 3 → Drafted d (combined_by t (class_at upper i) j) (7 * j + i)
  pub moved : (i : ℕ) → i < 3 → Drafted d (move_by v t (class_at upper i) j) (7 * j + 4 + i)

-- the first n words
pub record Filled (v : ℕ) (upper : Bool) (t d : List ℕ) (n : ℕ) : Type 0 where
  pub word : (j : ℕ) → 0 < j → j ≤ n → Moved v upper t d j

-- the words before word j
pub record Next (v : ℕ) (upper : Bool) (t bytes starts d : List ℕ) (j : ℕ) : Type 0 where
  pub room : Room t bytes starts d
  pub word : Inside t j
  pub before : (i : ℕ) → 0 < i → i < j → Moved v upper t d i
