-- What a class byte, and the number of the states before its word, tell of the word's states.
use Rattle.std.specs.Prelude.{ℕ, ◌+◌, ◌<◌, ◌≡◌, Bool, cond, List, None, IfSome}
use Rattle.std.specs.Bool.{then_some}
use Rattle.logic.specs.Bit.{bit}
use Rattle.logic.specs.Formula.{Formula}
use Rattle.automata.specs.Positive.{Positive, renamed}
use Rattle.automata_laws.specs.StateClass.{sigma₁, pi₁, class_bit}
use Rattle.automata_laws.specs.FormulaAutomaton.{State}
use Rattle.automata_tables.specs.States.{number_of}
use Rattle.automata_tables.specs.Moves.{as_formula}
use Rattle.class_bits.specs.Levels.{second_class, level}
use Rattle.state_classes.specs.Kept.{offset}
use Rattle.word_states.specs.declared.Held.{Held}

-- the numbers fit the field of a slot
abbrev pub Small : Held → Type 0
Small h = IfSome h.sigma (λ n. n < 1048576) × IfSome h.pi (λ n. n < 1048576) × IfSome h.further (λ n. n < 1048576)

-- those of Sigma-1, Pi-1 and a class of the second level
pub record Moving (byte start : ℕ) (upper : Bool) (h : Held) : Type 0 where
  pub sigma : h.sigma ≡ then_some (bit byte 1) (start + offset sigma₁ byte)
  pub pi : h.pi ≡ then_some (bit byte 2) (start + offset pi₁ byte)
  pub further : h.further ≡ then_some (bit byte (class_bit (second_class upper))) (start + offset (second_class upper) byte)

-- those of both classes of its level
pub record Starting (byte start : ℕ) (h : Held) : Type 0 where
  pub sigma : h.sigma ≡ then_some (bit byte (level byte)) (start + 1)
  pub pi : h.pi ≡ then_some (bit byte (level byte + 1)) (start + cond (bit byte (level byte)) 2 1)
  pub further : h.further ≡ None

-- a positive formula over the numbers of states, as a formula
abbrev pub shown : List ℕ → Positive State → Formula
shown t θ = as_formula (renamed (number_of t) θ)
