-- Which bits of a sample a move looks at: those of the letters of its formula.
use Prim.Native.Nat.{ℕ}
use mathlib.Core.Path.{◌≡◌, refl, ap, ap₂, fun_ext}
use mathlib.Core.Bool.{Bool, beq}
use Rattle.logic.specs.Formula.{Formula, const, lit, un, bin, next, neg, finally, globally}
use Rattle.logic.specs.Lasso.{letter_in}
use Rattle.logic.specs.Letters.{Letters}
use Rattle.automata.specs.Positive.{Positive, constant, atom}
use Rattle.automata_laws.specs.StateClass.{StateClass}
use Rattle.automata_laws.specs.FormulaAutomaton.{State, operator_move, moved_by, move_of}

-- samples that have the same bits of the letters of a formula move its states alike
pub move_same : (P : ℕ → Type 0) (v w : ℕ) → ((n : ℕ) → P n → letter_in v n ≡ letter_in w n) → (φ : Formula) → Letters P φ → (Γ : StateClass) → move_of φ Γ v ≡ move_of φ Γ w
unfolding move_of
move_same P v w e (const b) l Γ = refl
move_same P v w e (lit b n) l Γ = ap (λ (x : Bool). constant (beq b x)) (e n l)
move_same P v w e (un next a) l Γ = refl
move_same P v w e (un neg a) l Γ = refl
move_same P v w e (un finally a) l Γ = refl
move_same P v w e (un globally a) l Γ = refl
move_same P v w e (bin o a b) l Γ =
    ap₂ (λ (f g : StateClass → Positive State). operator_move o (moved_by Γ a f) (moved_by Γ b g) (atom (record { formula = bin o a b; class = Γ })))
    (fun_ext (move_same P v w e a l.0)) (fun_ext (move_same P v w e b l.1))
