-- What the automaton of a formula accepts, and how its paths go: source 002, Lemma 28, for the class Δ₂; document 02, N14.
use Rattle.std.specs.Prelude.{◌≤◌, ◌↔◌, length}
use Rattle.logic.specs.Formula.{Formula}
use Rattle.logic.specs.Lasso.{Lasso, word}
use Rattle.logic.specs.Semantics.{Holds}
use Rattle.automata.specs.Automaton.{Accepts, ChangesOnce}
use Rattle.automata_laws.specs.StateClass.{every, smallest_in}
use Rattle.automata_laws.specs.FormulaAutomaton.{formula_automaton}

pub record Recognises (φ : Formula) : Type 0 where
  -- it accepts a lasso exactly when the formula holds at position 0
  pub accepts : (r : Lasso) → Accepts (formula_automaton φ) (word r) ↔ Holds (word r) φ 0
  -- on any path it changes between accepting and other states at most once
  pub once : ChangesOnce (formula_automaton φ)
  -- a formula has at most two states
  pub few : (ψ : Formula) → length (smallest_in every ψ) ≤ 2
