-- The form of a word by the word's shape: the kind that it puts, and what a slot of a draft must hold to stand for it.
use Prim.Native.Nat.{ℕ, zero, suc, ◌<◌, ◌≤◌}
use native.Mathlib.Omega.{arith}
use mathlib.Core.Path.{◌≡◌, refl, sym, subst}
use mathlib.Core.Bool.{Bool, true, false}
use mathlib.Core.List.{List}
use lib.Dec.{T}
use Rattle.logic.specs.Formula.{Formula, Binary, bin, next, neg, finally, globally, conj, disj, until, weak, release, strong, implies}
use Rattle.logic.specs.NegationNormalForm as form
use Rattle.table.specs.Node.{Shape, none, constant, letter, unary, binary, shape, left_field, right_field, binary_kind, kind_of}
use Rattle.table.specs.Table.{formula_by}
use Rattle.table.specs.Checks.{is_operand, is_blank}
use Rattle.table.proofs.Shapes.{shape-kind_of}
use Rattle.slots.specs.Slot.{pack}
use Rattle.drafts.specs.Drafted.{SlotIs, Drafted}
use Rattle.source.specs.Kinds.{signed}

-- kind 0 alone stands for nothing
abbrev pub is_word : Shape → Bool
is_word none = false
is_word (constant b) = true
is_word (letter b) = true
is_word (unary o) = true
is_word (binary o) = true

pub kind-positive : (s : Shape) → T (is_word s) → 0 < kind_of s
unfolding shape
kind-positive s h = go (kind_of s) (shape-kind_of s)
  where
    go : (k : ℕ) → shape k ≡ s → 0 < k
    go zero e = absurd (subst (λ (x : Shape). T (is_word x)) (sym e) h)
    go (suc k) e = omega arith

-- all but constants and letters have a right operand
pub right_by : (s : Shape) → 5 ≤ kind_of s → is_operand (right_field s) ≡ true
right_by none h = absurd (omega arith)
right_by (constant true) h = absurd (omega arith)
right_by (constant false) h = absurd (omega arith)
right_by (letter true) h = absurd (omega arith)
right_by (letter false) h = absurd (omega arith)
right_by (unary o) h = refl
right_by (binary o) h = refl

-- the form of a constant or a letter, at a slot with its signed kind and its field
pub leaf_by : (p : Bool) (s : Shape) (n : ℕ) (a b : Formula) {d : List ℕ} {i : ℕ} → 0 < kind_of s → kind_of s < 5
    → n < 16384
    → (is_blank (right_field s) ≡ true → n ≡ 0)
    → SlotIs d i (pack (kind_of (signed p s)) 0 n)
    → Drafted d (form.plain p (formula_by s n a b)) i
unfolding form.plain
leaf_by p none n a b g h f z q = absurd (omega arith)
leaf_by p (constant c) n a b g h f z q = rw (z refl) at q
leaf_by p (letter c) n a b g h f z q = (f, q)
leaf_by p (unary next) n a b g h f z q = absurd (omega arith)
leaf_by p (unary neg) n a b g h f z q = absurd (omega arith)
leaf_by p (unary finally) n a b g h f z q = absurd (omega arith)
leaf_by p (unary globally) n a b g h f z q = absurd (omega arith)
leaf_by p (binary conj) n a b g h f z q = absurd (omega arith)
leaf_by p (binary disj) n a b g h f z q = absurd (omega arith)
leaf_by p (binary until) n a b g h f z q = absurd (omega arith)
leaf_by p (binary weak) n a b g h f z q = absurd (omega arith)
leaf_by p (binary release) n a b g h f z q = absurd (omega arith)
leaf_by p (binary strong) n a b g h f z q = absurd (omega arith)
leaf_by p (binary implies) n a b g h f z q = absurd (omega arith)

-- a kind above the constants and letters and other than X, not, F, G and implies, as the last arm of the match on the kind is reached
pub record IsOperator (k : ℕ) : Type 0 where
  pub above : 5 ≤ k
  pub no_next : k ≡ 7 → ⊥
  pub no_not : k ≡ 12 → ⊥
  pub no_finally : k ≡ 13 → ⊥
  pub no_globally : k ≡ 14 → ⊥
  pub no_implies : k ≡ 15 → ⊥

-- and, or, U, W, R or M: the operator that its form has, over the forms of its operands
pub record Operator (p : Bool) (s : Shape) : Type 0 where
  pub operator : Binary
  pub kinded : kind_of (signed p s) ≡ binary_kind operator
  pub form : (n : ℕ) (a b : Formula) → form.plain p (formula_by s n a b) ≡ bin operator (form.plain p a) (form.plain p b)
  pub left_operand : is_operand (left_field s) ≡ true

signed-operator : (p : Bool) (o : Binary) → kind_of (signed p (binary o)) ≡ binary_kind (form.signed p o)
    → ((a b : Formula) → form.plain p (bin o a b) ≡ bin (form.signed p o) (form.plain p a) (form.plain p b)) → Operator p (binary o)
signed-operator p o e f = record { operator = form.signed p o; kinded = e; form = λ n a b. f a b; left_operand = refl }

pub operator_by : (p : Bool) (s : Shape) → IsOperator (kind_of s) → Operator p s
unfolding form.plain
operator_by p none c = absurd (omega (arith, c.above))
operator_by p (constant true) c = absurd (omega (arith, c.above))
operator_by p (constant false) c = absurd (omega (arith, c.above))
operator_by p (letter true) c = absurd (omega (arith, c.above))
operator_by p (letter false) c = absurd (omega (arith, c.above))
operator_by p (unary next) c = absurd (c.no_next refl)
operator_by p (unary neg) c = absurd (c.no_not refl)
operator_by p (unary finally) c = absurd (c.no_finally refl)
operator_by p (unary globally) c = absurd (c.no_globally refl)
operator_by p (binary conj) c = signed-operator p conj refl (λ a b. refl)
operator_by p (binary disj) c = signed-operator p disj refl (λ a b. refl)
operator_by p (binary until) c = signed-operator p until refl (λ a b. refl)
operator_by p (binary weak) c = signed-operator p weak refl (λ a b. refl)
operator_by p (binary release) c = signed-operator p release refl (λ a b. refl)
operator_by p (binary strong) c = signed-operator p strong refl (λ a b. refl)
operator_by p (binary implies) c = absurd (c.no_implies refl)
