-- The states of the automaton of a plain table (document 02, N14): as words, and by their numbers, which are counted from 1.
use Rattle.std.specs.Prelude.{ℕ, zero, suc, Bool, false, cond, ◌&&◌, List, [], ◌∷◌, ◌++◌, map, get_or, eqb}
use Rattle.logic.specs.Formula.{Formula, const, same}
use Rattle.table.specs.Node.{pack}
use Rattle.table.specs.Table.{formulas}
use Rattle.automata_laws.specs.StateClass.{StateClass, sigma₁, class_bit, is_pi, every, smallest_in}
use Rattle.automata_laws.specs.FormulaAutomaton.{is_proper, State}

-- a proper formula has a state for each of its smallest classes, and no other formula has one
abbrev pub classes_of : Formula → List StateClass
classes_of φ = cond (is_proper φ) (smallest_in every φ) []

-- "A state is one word: kind 1 if accepting, else 0; left the class's bit number; right the table word."
abbrev pub state_word : ℕ → StateClass → ℕ
state_word j Γ = pack (cond (is_pi Γ) 1 0) (class_bit Γ) j

-- "States stand in rising word, then class bit": those of the formulas of the words from number j on
unfoldable pub words_from : ℕ → List Formula → List ℕ
words_from j [] = []
words_from j (φ ∷ φs) = map (state_word j) (classes_of φ) ++ words_from (suc j) φs

unfoldable pub state_words : List ℕ → List ℕ
state_words t = words_from 1 (formulas t)

-- the states themselves, in the same order
unfoldable pub states_from : List Formula → List State
states_from [] = []
states_from (φ ∷ φs) = map (λ Γ. record { formula = φ; class = Γ }) (classes_of φ) ++ states_from φs

unfoldable pub states : List ℕ → List State
states t = states_from (formulas t)

-- whether two states are the same
abbrev pub is_state : State → State → Bool
is_state p q = same p.formula q.formula && eqb (class_bit p.class) (class_bit q.class)

-- the number of a state among some, of which the first is number n + 1; 0 where it is none of them
unfoldable pub number_from : ℕ → List State → State → ℕ
number_from n [] q = 0
number_from n (p ∷ ps) q = cond (is_state p q) (suc n) (number_from (suc n) ps q)

unfoldable pub number_of : List ℕ → State → ℕ
number_of t q = number_from 0 (states t) q

-- the state of a number; false, which is no state and never moves, where there is none
abbrev pub no_state : State
no_state = record { formula = const false; class = sigma₁ }

unfoldable pub state_at : List State → ℕ → State
state_at qs zero = no_state
state_at qs (suc i) = get_or qs i no_state
