-- The alternating automaton of a formula: source 002, section 7.2, as document 02, N14 words it.
use Rattle.std.specs.Prelude.{ℕ, Bool, true, false, not, cond, List, map, T}
use Rattle.std.specs.Bool.{beq}
use Rattle.logic.specs.Formula.{Formula, Binary, const, lit, un, bin, next, neg, finally, globally, conj, disj, until, weak, release, strong, implies, is_junction}
use Rattle.logic.specs.Lasso.{letter_in}
use Rattle.transforms.specs.Subformula.{Sub}
use Rattle.automata.specs.Positive.{Positive, constant, atom, and, or, any_of}
use Rattle.automata.specs.Automaton.{Automaton}
use Rattle.automata_laws.specs.StateClass.{StateClass, is_pi, within, every, is_smallest, smallest_in, smallest_within}

-- neither constant, and, nor or
abbrev pub is_proper : Formula → Bool
is_proper (const b) = false
is_proper (lit b n) = true
is_proper (un o a) = true
is_proper (bin o a b) = not (is_junction o)

-- a proper formula with one of its smallest classes
pub record State : Type 0 where
  pub formula : Formula
  pub class : StateClass

-- the or of the states of a formula with a class among some
abbrev pub states_of : List StateClass → Formula → Positive State
states_of Γs φ = any_of (map (λ Γ. atom (record { formula = φ; class = Γ })) (smallest_in Γs φ))

-- [φ] bounded by classes: and, or and constants down to the first proper formulas, each of which stands as the or of its states with a class among some
unfoldable pub combination : List StateClass → Formula → Positive State
combination Γs (const b) = constant b
combination Γs (lit b n) = states_of Γs (lit b n)
combination Γs (un o a) = states_of Γs (un o a)
combination Γs (bin conj a b) = and (combination Γs a) (combination Γs b)
combination Γs (bin disj a b) = or (combination Γs a) (combination Γs b)
combination Γs (bin until a b) = states_of Γs (bin until a b)
combination Γs (bin weak a b) = states_of Γs (bin weak a b)
combination Γs (bin release a b) = states_of Γs (bin release a b)
combination Γs (bin strong a b) = states_of Γs (bin strong a b)
combination Γs (bin implies a b) = states_of Γs (bin implies a b)

-- a U b and a W b move to b' or (a' and the state itself), a R b and a M b to b' and (a' or the state itself); and, or go down
abbrev pub operator_move : Binary → Positive State → Positive State → Positive State → Positive State
operator_move conj a b q = and a b
operator_move disj a b q = or a b
operator_move until a b q = or b (and a q)
operator_move weak a b q = or b (and a q)
operator_move release a b q = and b (or a q)
operator_move strong a b q = and b (or a q)
operator_move implies a b q = constant false

-- an operand moved by a class: a proper one to the or of the moves of its states with a class that is this one or lies within it, each by its own class
abbrev pub moved_by : StateClass → Formula → (StateClass → Positive State) → Positive State
moved_by Γ a f = cond (is_proper a) (any_of (map f (smallest_within Γ a))) (f Γ)

-- what the state of a formula and a class moves to on a sample; of a formula that is not proper, its operands moved by the class. No class
-- holds a formula with not, F, G or implies, so that these have no state
unfoldable pub move_of : Formula → StateClass → ℕ → Positive State
move_of (const b) Γ s = constant b
move_of (lit b n) Γ s = constant (beq b (letter_in s n))
move_of (un next a) Γ s = combination (within Γ) a
move_of (un neg a) Γ s = constant false
move_of (un finally a) Γ s = constant false
move_of (un globally a) Γ s = constant false
move_of (bin o a b) Γ s =
    operator_move o (moved_by Γ a (λ Δ. move_of a Δ s)) (moved_by Γ b (λ Δ. move_of b Δ s)) (atom (record { formula = bin o a b; class = Γ }))

-- the automaton of φ: its states are the proper subformulas of φ, each with its smallest classes; those with a Pi class are accepting
abbrev pub formula_automaton : Formula → Automaton State
formula_automaton φ = record {
  IsState = λ q. Sub q.formula φ × T (is_proper q.formula) × T (is_smallest q.formula q.class);
  start = combination every φ;
  move = λ q s. move_of q.formula q.class s;
  accepting = λ q. is_pi q.class;
}
