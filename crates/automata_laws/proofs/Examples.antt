-- What source 002 works out below its definition of states, and moves on single samples.
use mathlib.Core.Path.{◌≡◌, refl}
use mathlib.Core.Bool.{true, false}
use mathlib.Core.List.{[], ◌∷◌}
use Rattle.logic.specs.Formula.{Formula, lit, un, bin, next, conj, until, weak, F, G}
use Rattle.logic.specs.Bit.{bit}
use Rattle.logic.specs.Lasso.{letter_in}
use Rattle.automata.specs.Positive.{Positive, constant, atom, and, or}
use Rattle.automata_laws.specs.StateClass.{StateClass, sigma₁, pi₁, sigma₂, pi₂, within, every, smallest_in}
use Rattle.automata_laws.specs.FormulaAutomaton.{State, combination, move_of}

abbrev a : Formula
a = lit true 1

abbrev b : Formula
b = lit true 2

abbrev state : Formula → StateClass → Positive State
state φ Γ = atom (record { formula = φ; class = Γ })

-- X a has two smallest classes, a W b has Π₁ alone, and X (F a and G b) has both classes of the second level
pub smallest-examples : (smallest_in every (un next a) ≡ sigma₁ ∷ pi₁ ∷ []) × (smallest_in every (bin weak a b) ≡ pi₁ ∷ [])
    × (smallest_in every (un next (bin conj (F a) (G b))) ≡ sigma₂ ∷ pi₂ ∷ [])
unfolding smallest_in
smallest-examples = (refl, refl, refl)

-- [X a] within Σ₂ is the or of its two states, within Σ₁ the one; F a has no state within Π₁
pub down-examples : (combination (within sigma₂) (un next a) ≡ or (state (un next a) sigma₁) (state (un next a) pi₁)) × (combination (within sigma₁) (un next a) ≡ state (un next a) sigma₁)
    × (combination (within pi₁) (F a) ≡ constant false)
unfolding combination smallest_in
down-examples = (refl, refl, refl)

-- on a sample with the letter alone: what stands under G in G F a moves as the state of F a does, which is fulfilled; a letter under U in a U G b has two states
pub move-examples : (move_of (G (F a)) pi₂ 1 ≡ and (or (constant true) (and (constant true) (state (F a) sigma₁))) (or (constant false) (state (G (F a)) pi₂)))
    × (move_of (bin until a (G b)) sigma₂ 1 ≡ or (and (constant false) (or (constant false) (state (G b) pi₁))) (and (or (constant true) (constant true)) (state (bin until a (G b)) sigma₂)))
unfolding move_of combination smallest_in letter_in bit
move-examples = (refl, refl)
