-- The start and the moves of the automaton of a plain table, over the numbers of its states, and as tables (document 02, N14).
use Rattle.std.specs.Prelude.{ℕ, zero, suc, pred, ◌≤◌, ◌<◌, true, false, List, length, get_or, eqb}
use Rattle.logic.specs.Formula.{Formula, const, lit, un, bin, conj, disj, until, weak, release, strong, implies}
use Rattle.table.specs.Node.{kind}
use Rattle.table.specs.Table.{rule}
use Rattle.table.specs.Numbering.{table_of}
use Rattle.automata.specs.Positive.{Positive, constant, atom, and, or, renamed}
use Rattle.automata.specs.Automaton.{Automaton}
use Rattle.automata_laws.specs.StateClass.{every}
use Rattle.automata_laws.specs.FormulaAutomaton.{State, combination, move_of}
use Rattle.automata_tables.specs.States.{state_words, states, number_of, state_at}

-- "the rule's own and, or and constants down to its first proper words, each the or of its states"
unfoldable pub start_of : List ℕ → Positive ℕ
start_of t = renamed (number_of t) (combination every (rule t))

-- what the state of a number moves to on a sample
unfoldable pub move_at : List ℕ → ℕ → ℕ → Positive ℕ
move_at t n s = let q : State = state_at (states t) n in renamed (number_of t) (move_of q.formula q.class s)

-- the automaton over the numbers of its states; the accepting ones have a word of kind 1
abbrev pub table_automaton : List ℕ → Automaton ℕ
table_automaton t = record {
  IsState = λ n. (0 < n) × (n ≤ length (state_words t));
  start = start_of t;
  move = move_at t;
  accepting = λ n. eqb (kind (get_or (state_words t) (pred n) 0)) 1;
}

-- "State number 0 writes the start instead"
abbrev pub written_at : List ℕ → ℕ → ℕ → Positive ℕ
written_at t zero s = start_of t
written_at t (suc i) s = move_at t (suc i) s

-- "a table of kinds 1, 2, 5, 6 and, for a state, 3 with its number, numbered as in document 01"
abbrev pub as_formula : Positive ℕ → Formula
as_formula (constant b) = const b
as_formula (atom n) = lit true n
as_formula (and a b) = bin conj (as_formula a) (as_formula b)
as_formula (or a b) = bin disj (as_formula a) (as_formula b)

unfoldable pub move_table : List ℕ → ℕ → ℕ → List ℕ
move_table t n s = table_of (as_formula (written_at t n s))

-- what the last word of such a table stands for
abbrev pub as_positive : Formula → Positive ℕ
as_positive (const b) = constant b
as_positive (lit true n) = atom n
as_positive (lit false n) = constant false
as_positive (un o a) = constant false
as_positive (bin conj a b) = and (as_positive a) (as_positive b)
as_positive (bin disj a b) = or (as_positive a) (as_positive b)
as_positive (bin until a b) = constant false
as_positive (bin weak a b) = constant false
as_positive (bin release a b) = constant false
as_positive (bin strong a b) = constant false
as_positive (bin implies a b) = constant false
