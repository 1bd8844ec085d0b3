-- What is kept of a plain table t so that the states of its words are known: a class byte for each word, the first at index 0, and at each word's
-- number, counted from 1, how many states the words before it have.
use Rattle.std.specs.Prelude.{ℕ, suc, ◌+◌, ◌<◌, ◌≤◌, ◌≡◌, cond, List, length, get_or, T}
use Rattle.logic.specs.Bit.{bit}
use Rattle.logic.specs.Formula.{Formula}
use Rattle.logic.specs.ClassByte.{class_byte}
use Rattle.table.specs.Table.{formulas, formula_of}
use Rattle.automata_laws.specs.StateClass.{StateClass, sigma₁, pi₁, sigma₂, pi₂, is_smallest}
use Rattle.automata_laws.specs.FormulaAutomaton.{is_proper}
use Rattle.automata_tables.specs.States.{state_words, number_of}

-- the place of a class among the states of a word: after Sigma of its own level, where the word has that one too
abbrev pub offset : StateClass → ℕ → ℕ
offset sigma₁ byte = 1
offset pi₁ byte = cond (bit byte 1) 2 1
offset sigma₂ byte = 1
offset pi₂ byte = cond (bit byte 4) 2 1

abbrev pub word_of : List ℕ → ℕ → Formula
word_of t j = formula_of (formulas t) j

pub record Kept (t bytes starts : List ℕ) : Type 0 where
  pub bytes_long : length t ≤ length bytes
  pub starts_long : length t < length starts
  pub few : length (state_words t) ≤ 16383
  pub byte : (i : ℕ) → i < length t → get_or bytes i 0 ≡ class_byte (word_of t (suc i))
  pub number : (j : ℕ) (Γ : StateClass) → 0 < j → j ≤ length t → T (is_proper (word_of t j)) → T (is_smallest (word_of t j) Γ)
      → number_of t (record { formula = word_of t j; class = Γ }) ≡ get_or starts j 0 + offset Γ (class_byte (word_of t j))
