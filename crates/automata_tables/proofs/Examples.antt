-- The automaton of G p1, whose plain table is false, p1 and their R: the letter has two states, and G p1 one, which accepts.
use mathlib.Core.Path.{◌≡◌, refl}
use mathlib.Core.List.{List, [], ◌∷◌}
use mathlib.Core.Bool.{decide}
use Prim.Native.Nat.{ℕ}
use native.Mathlib.Decide.{ℕ_discrete}
use Rattle.logic.specs.Bit.{bit}
use Rattle.logic.specs.Formula.{same}
use Rattle.logic.specs.Lasso.{letter_in}
use Rattle.table.specs.Node.{kind, left, right, pack, shape}
use Rattle.table.specs.Table.{formula_of, word_formula, formulas_after, formulas, rule}
use Rattle.table.specs.Numbering.{find_from, find, put, build, table_of}
use Rattle.automata_laws.specs.StateClass.{smallest_in}
use Rattle.automata_laws.specs.FormulaAutomaton.{combination, move_of}
use Rattle.automata_tables.specs.States.{words_from, state_words, states_from, states, number_from, number_of, state_at}
use Rattle.automata_tables.specs.Moves.{start_of, move_at, move_table}

abbrev globally : List ℕ
globally = 0x10000000 ∷ 0x30000001 ∷ 0xA0004002 ∷ []

pub states-example : state_words globally ≡ 0x00004002 ∷ 0x10008002 ∷ 0x10008003 ∷ []
unfolding state_words words_from formulas formulas_after word_formula formula_of shape kind left right pack smallest_in
states-example = refl

-- it starts in G p1, state 3; on a sample with p1 it moves to true and (false or itself), and on one without to false and (false or itself)
pub start_example : move_table globally 0 0 ≡ 0x30000003 ∷ []
unfolding move_table start_of table_of build put find find_from pack states states_from number_of number_from same ℕ_discrete decide combination rule formulas formulas_after word_formula formula_of shape kind left right smallest_in
start_example = refl

pub move-example : move_table globally 3 1 ≡ 0x20000000 ∷ 0x10000000 ∷ 0x30000003 ∷ 0x60008003 ∷ 0x50004004 ∷ []
unfolding move_table move_at state_at table_of build put find find_from pack states states_from number_of number_from same ℕ_discrete decide move_of combination letter_in bit rule formulas formulas_after word_formula formula_of shape kind left right smallest_in
move-example = refl
