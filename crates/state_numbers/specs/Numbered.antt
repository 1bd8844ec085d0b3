-- How states are numbered with what is kept of a table's words, and the word and the class of a state.
use Rattle.std.specs.Prelude.{ℕ, suc, pred, ◌≤◌, ◌<◌, ◌≡◌, true, List, length, get_or, take, T}
use Rattle.logic.specs.ClassByte.{class_byte}
use Rattle.std.specs.Prelude.{Ok}
use Rattle.table.specs.Checks.{checked}
use Rattle.table.specs.Table.{formulas}
use Rattle.automata_laws.specs.StateClass.{StateClass, class_bit, is_smallest}
use Rattle.automata_laws.specs.FormulaAutomaton.{is_proper}
use Rattle.automata_tables.specs.States.{state_words, states_from, states, state_at}
use Rattle.state_classes.specs.Kept.{word_of, Kept}

-- accepted plain words, with the class byte of each
pub record Classed (t bytes : List ℕ) : Type 0 where
  pub accepted : checked true 16383 t ≡ Ok tt
  pub bytes_long : length t ≤ length bytes
  pub byte : (i : ℕ) → i < length t → get_or bytes i 0 ≡ class_byte (word_of t (suc i))

-- how many states the first i words have
abbrev pub states_before : List ℕ → ℕ → ℕ
states_before t i = length (states_from (take i (formulas t)))

-- kept at each word's number: how many states the words before it have
pub record Started (t starts : List ℕ) : Type 0 where
  pub long : length t < length starts
  pub start : (i : ℕ) → i < length t → get_or starts (suc i) 0 ≡ states_before t i

pub record Numbered (t bytes starts : List ℕ) : Type 0 where
  pub kept : Kept t bytes starts
  pub started : Started t starts

-- accepted plain words, and room for what is kept of them
pub record Room (t bytes starts : List ℕ) : Type 0 where
  pub accepted : checked true 16383 t ≡ Ok tt
  pub bytes_long : length t ≤ length bytes
  pub starts_long : length t < length starts

pub record Filled (t bytes starts : List ℕ) (total : ℕ) : Type 0 where
  pub all : total ≡ length (state_words t)
  pub numbered : total ≤ 16383 → Numbered t bytes starts

-- state number n is one of word number w
pub record InWord (t : List ℕ) (n w : ℕ) : Type 0 where
  pub positive : 0 < w
  pub within : w ≤ length t
  pub past : states_before t (pred w) < n
  pub last : n ≤ states_before t w

-- and its class has bit c
pub record Found (t : List ℕ) (n w c : ℕ) : Type 0 where
  pub positive : 0 < w
  pub within : w ≤ length t
  pub class : StateClass
  pub is_bit : c ≡ class_bit class
  pub is_state : state_at (states t) n ≡ record { formula = word_of t w; class = class }
  pub proper : T (is_proper (word_of t w))
  pub smallest : T (is_smallest (word_of t w) class)
