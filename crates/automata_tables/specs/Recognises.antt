-- What holds of the automaton of a plain table t (document 02, N14), and of the words that tell of it.
use Rattle.std.specs.Prelude.{ℕ, pred, ◌*◌, ◌≤◌, ◌<◌, ◌≡◌, cond, ◌↔◌, List, length, get_or}
use Rattle.logic.specs.Lasso.{Lasso, word}
use Rattle.transforms.specs.NormalForm.{keep}
use Rattle.logic.specs.Semantics.{Holds}
use Rattle.table.specs.Node.{kind, left, right}
use Rattle.table.specs.Table.{formulas, formula_of, rule}
use Rattle.automata.specs.Automaton.{Accepts, ChangesOnce}
use Rattle.automata_laws.specs.StateClass.{class_bit, is_pi}
use Rattle.automata_laws.specs.FormulaAutomaton.{State, is_proper}
use Rattle.automata_tables.specs.States.{state_words, states, state_at}
use Rattle.automata_tables.specs.Moves.{table_automaton, written_at, move_table, as_positive}

-- a word tells of a state: whether it is accepting, the bit of its class, and the word of its formula
pub record Tells (t : List ℕ) (w : ℕ) (q : State) : Type 0 where
  pub accepting : kind w ≡ cond (is_pi q.class) 1 0
  pub class : left w ≡ class_bit q.class
  pub formula : formula_of (formulas t) (right w) ≡ q.formula

pub record Recognises (t : List ℕ) : Type 0 where
  -- it accepts a looped recording exactly when the rule holds at moment 0
  pub accepts : (r : Lasso) → Accepts (table_automaton t) (word r) ↔ Holds (word r) (rule t) 0
  -- on any path it changes between accepting and other states at most once
  pub once : ChangesOnce (table_automaton t)
  -- it has at most twice as many states as the table has proper words
  pub few : length (state_words t) ≤ 2 * length (keep is_proper (formulas t))
  -- each of its words tells of the state of its number
  pub told : (n : ℕ) → 0 < n → n ≤ length (state_words t) → Tells t (get_or (state_words t) (pred n) 0) (state_at (states t) n)
  -- the words of the start and of a move, where numbers fit their fields, stand for it
  pub written : (n s : ℕ) → length (state_words t) ≤ 16383 → length (move_table t n s) ≤ 16383 → as_positive (rule (move_table t n s)) ≡ written_at t n s
