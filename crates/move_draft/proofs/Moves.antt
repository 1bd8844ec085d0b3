-- What a proper formula moves to; and how junctions and the operators U, W, R and M move.
use Prim.Native.Nat.{ℕ, ◌≤◌, ◌<◌}
use native.Mathlib.Omega.{arith}
use mathlib.Core.Path.{◌≡◌, refl}
use mathlib.Core.Bool.{Bool, true, false, cond}
use mathlib.Core.List.{List, map}
use lib.Dec.{T}
use Rattle.logic.specs.Formula.{Formula, Binary, bin, conj, disj, until, weak, release, strong}
use Rattle.logic.specs.ClassByte.{in_Σ₁, in_Π₁}
use Rattle.logic.proofs.Numbers.{in_range}
use Rattle.table.specs.Node.{Shape, binary, shape}
use Rattle.table.proofs.Shapes.{shape-binary}
use Rattle.automata.specs.Positive.{Positive, any_of, atom}
use Rattle.automata_laws.specs.StateClass.{StateClass, within, smallest_in}
use Rattle.automata_laws.specs.FormulaAutomaton.{State, is_proper, combination, moved_by, move_of}
use Rattle.word_states.specs.States.{shown}

-- a proper formula moves to the or of the moves of its states
pub moved-proper : (Γ : StateClass) (φ : Formula) (f : StateClass → Positive State) → T (is_proper φ) → moved_by Γ φ f ≡ any_of (map f (smallest_in (within Γ) φ))
moved-proper Γ φ f p = go (is_proper φ) p
  where
    go : (b : Bool) → T b → cond b (any_of (map f (smallest_in (within Γ) φ))) (f Γ) ≡ any_of (map f (smallest_in (within Γ) φ))
    go true p = refl
    go false p = absurd p

-- and, or: the operator, which both keep
pub record Junction (s : Shape) : Type 0 where
  pub operator : Binary
  pub is : s ≡ binary operator
  pub combined : (t : List ℕ) (Γs : List StateClass) (a b : Formula) → shown t (combination Γs (bin operator a b)) ≡ bin operator (shown t (combination Γs a)) (shown t (combination Γs b))
  pub moved : (t : List ℕ) (Γ : StateClass) (v : ℕ) (a b : Formula) → shown t (moved_by Γ (bin operator a b) (λ Δ. move_of (bin operator a b) Δ v))
      ≡ bin operator (shown t (moved_by Γ a (λ Δ. move_of a Δ v))) (shown t (moved_by Γ b (λ Δ. move_of b Δ v)))

pub junction_at : (k : ℕ) → 5 ≤ k → k < 7 → Junction (shape k)
unfolding combination move_of
junction_at k h l = in_range (λ n. Junction (shape n)) 5 1 k h (omega arith) (
  record { operator = conj; is = shape-binary conj; combined = λ t Γs a b. refl; moved = λ t Γ v a b. refl },
  record { operator = disj; is = shape-binary disj; combined = λ t Γs a b. refl; moved = λ t Γ v a b. refl },
)

-- U, W, R, M: the operators of its move, over its operands moved and its state; it is proper, and not in both Sigma-1 and Pi-1
pub record Fixpoint (inner outer : Binary) (s : Shape) : Type 0 where
  pub operator : Binary
  pub is : s ≡ binary operator
  pub proper : (a b : Formula) → T (is_proper (bin operator a b))
  pub one : (a b : Formula) → T (in_Σ₁ (bin operator a b)) → T (in_Π₁ (bin operator a b)) → ⊥
  pub move : (t : List ℕ) (Γ : StateClass) (v : ℕ) (a b : Formula) → shown t (move_of (bin operator a b) Γ v)
      ≡ bin outer (shown t (moved_by Γ b (λ Δ. move_of b Δ v))) (bin inner (shown t (moved_by Γ a (λ Δ. move_of a Δ v))) (shown t (atom (record { formula = bin operator a b; class = Γ }))))

pub until_at : (k : ℕ) → 8 ≤ k → k < 10 → Fixpoint conj disj (shape k)
unfolding move_of
until_at k h l = in_range (λ n. Fixpoint conj disj (shape n)) 8 1 k h (omega arith) (
  record { operator = until; is = shape-binary until; proper = λ a b. tt; one = λ a b s p. p; move = λ t Γ v a b. refl },
  record { operator = weak; is = shape-binary weak; proper = λ a b. tt; one = λ a b s p. s; move = λ t Γ v a b. refl },
)

pub release_at : (k : ℕ) → 10 ≤ k → k < 12 → Fixpoint disj conj (shape k)
unfolding move_of
release_at k h l = in_range (λ n. Fixpoint disj conj (shape n)) 10 1 k h (omega arith) (
  record { operator = release; is = shape-binary release; proper = λ a b. tt; one = λ a b s p. s; move = λ t Γ v a b. refl },
  record { operator = strong; is = shape-binary strong; proper = λ a b. tt; one = λ a b s p. p; move = λ t Γ v a b. refl },
)
