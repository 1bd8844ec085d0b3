-- What the start or the move of a state is drafted with, and where it stands.
use Rattle.std.specs.Prelude.{ℕ, ◌+◌, ◌*◌, ◌≤◌, ◌<◌, ◌≡◌, true, cond, List, length, eqb}
use Rattle.std.specs.Prelude.{Ok}
use Rattle.table.specs.Checks.{checked}
use Rattle.automata_laws.specs.StateClass.{StateClass, class_bit}
use Rattle.automata_tables.specs.States.{state_words, states, state_at}
use Rattle.state_classes.specs.Kept.{word_of, Kept}

-- state n is that of word w with the class of a bit
pub record Named (t : List ℕ) (n w bit : ℕ) : Type 0 where
  pub class : StateClass
  pub state : state_at (states t) n ≡ record { formula = word_of t w; class = class }
  pub is_bit : bit ≡ class_bit class
  pub among : n ≤ length (state_words t)
  pub positive : 0 < w
  pub inside : w ≤ length t

-- an accepted table, what is kept of it, and the word and the class of the state, where it is not the start, which is 0
pub record Drawn (t bytes starts : List ℕ) (n w bit : ℕ) : Type 0 where
  pub accepted : checked true 16383 t ≡ Ok tt
  pub kept : Kept t bytes starts
  pub named : 0 < n → Named t n w bit

-- where a word moved by the class of a bit stands
abbrev pub root_of : ℕ → ℕ → ℕ
root_of w bit = 7 * w + (4 + cond (eqb bit 1) 0 (cond (eqb bit 2) 1 2))
