-- The slots of a word stand for its forms, where those of its operands do.
use Prim.Native.Nat.{ℕ, ◌<◌}
use mathlib.Core.Path.{◌≡◌, refl}
use mathlib.Core.Bool.{Bool, true, false}
use mathlib.Core.List.{List}
use Rattle.logic.specs.Formula.{Formula, Binary, bin, conj, disj, until, weak, release, strong, implies, G}
use Rattle.transforms.specs.Rewriting.{steady_op, steady, recurring_op, recurring, opening}
use Rattle.table.specs.Node.{Shape, none, constant, letter, unary, binary, left_field, right_field, binary_kind}
use Rattle.table.specs.Table.{formula_by}
use Rattle.table.specs.Checks.{is_operand, is_proposition}
use Rattle.slots.specs.Slot.{pack}
use Rattle.drafts.specs.Drafted.{SlotIs, Drafted}
use Rattle.form_places.specs.declared.Rewriting.{Rewriting}
use Rattle.form_places.specs.declared.Rewriting.TheVariants.{Steady, Recurring, Opening}
use Rattle.form_places.specs.Places.{place, globally_slot}
use Rattle.rewriting.specs.Slots.{by, slot_by, open_left, open_right}

-- a formula stands at slot j, which is before slot i
abbrev Earlier : List ℕ → ℕ → Formula → ℕ → Type 0
Earlier d i φ j = (j < i) × Drafted d φ j

module _ (d : List ℕ) (i l r : ℕ) (a b : Formula) (p : Earlier d i a l) (q : Earlier d i b r) where
  both : (o : Binary) → SlotIs d i (pack (binary_kind o) l r) → Drafted d (bin o a b) i
  both o s = (l, r, p.0, q.0, p.1, q.1, s)

  steady_op-drafted : (m : Bool) (o : Binary) → SlotIs d i (slot_by (steady_op m o a b) l r) → Drafted d (steady_op m o a b) i
  steady_op-drafted m conj s = both conj s
  steady_op-drafted m disj s = both disj s
  steady_op-drafted true until s = both weak s
  steady_op-drafted false until s = s
  steady_op-drafted m weak s = both weak s
  steady_op-drafted m release s = both release s
  steady_op-drafted true strong s = both release s
  steady_op-drafted false strong s = s
  steady_op-drafted m implies s = both implies s

  recurring_op-drafted : (n : Bool) (o : Binary) → SlotIs d i (slot_by (recurring_op n o a b) l r) → Drafted d (recurring_op n o a b) i
  recurring_op-drafted n conj s = both conj s
  recurring_op-drafted n disj s = both disj s
  recurring_op-drafted n until s = both until s
  recurring_op-drafted true weak s = s
  recurring_op-drafted false weak s = both until s
  recurring_op-drafted true release s = s
  recurring_op-drafted false release s = both strong s
  recurring_op-drafted n strong s = both strong s
  recurring_op-drafted n implies s = both implies s

-- a word of shape s with the letter n and the operands a and b, which are the words l and r: the forms of the operands stand before slot i
pub record Operands (d : List ℕ) (M N : Formula → Bool) (s : Shape) (i n l r : ℕ) (a b : Formula) : Type 0 where
  pub left_form : is_operand (left_field s) ≡ true → (m : Rewriting) → (place m l < i) × Drafted d (by m M N a) (place m l)
  pub right_form : is_operand (right_field s) ≡ true → (m : Rewriting) → (place m r < i) × Drafted d (by m M N b) (place m r)
  pub letter_small : is_proposition (right_field s) ≡ true → n < 16384

module _ {d : List ℕ} {M N : Formula → Bool} {i n l r : ℕ} {a b : Formula} where
  pub steady-drafted : (s : Shape) → Operands d M N s i n l r a b → SlotIs d i (slot_by (steady M (formula_by s n a b)) (place Steady l) (place Steady r))
      → Drafted d (steady M (formula_by s n a b)) i
  unfolding steady
  steady-drafted none h x = x
  steady-drafted (constant c) h x = x
  steady-drafted (letter c) h x = (h.letter_small refl, x)
  steady-drafted (unary o) h x = let q = h.right_form refl Steady in (place Steady r, q.0, q.1, x)
  steady-drafted (binary o) h x = steady_op-drafted d i (place Steady l) (place Steady r) (steady M a) (steady M b) (h.left_form refl Steady) (h.right_form refl Steady) (M (bin o a b)) o x

  pub recurring-drafted : (s : Shape) → Operands d M N s i n l r a b → SlotIs d i (slot_by (recurring N (formula_by s n a b)) (place Recurring l) (place Recurring r))
      → Drafted d (recurring N (formula_by s n a b)) i
  unfolding recurring
  recurring-drafted none h x = x
  recurring-drafted (constant c) h x = x
  recurring-drafted (letter c) h x = (h.letter_small refl, x)
  recurring-drafted (unary o) h x = let q = h.right_form refl Recurring in (place Recurring r, q.0, q.1, x)
  recurring-drafted (binary o) h x =
      recurring_op-drafted d i (place Recurring l) (place Recurring r) (recurring N a) (recurring N b) (h.left_form refl Recurring) (h.right_form refl Recurring) (N (bin o a b)) o x

-- the slots that the opening form of W and of R leads to: G at g, and the or at e
pub record Always (d : List ℕ) (M : Formula → Bool) (s : Shape) (i e l r : ℕ) (a b : Formula) : Type 0 where
  pub of_weak : s ≡ binary weak → (e < i) × Drafted d (bin disj (opening M b) (G (steady M a))) e
  pub of_release : s ≡ binary release → (e < i) × Drafted d (bin disj (opening M a) (G (steady M b))) e

module _ {d : List ℕ} {M N : Formula → Bool} {i n l r : ℕ} {a b : Formula} where
  kept : (o : Binary) → Operands d M N (binary o) i n l r a b → SlotIs d i (pack (binary_kind o) (place Opening l) (place Opening r)) → Drafted d (bin o (opening M a) (opening M b)) i
  kept o h x = both d i (place Opening l) (place Opening r) (opening M a) (opening M b) (h.left_form refl Opening) (h.right_form refl Opening) o x

  pub opening-drafted : {e : ℕ} (s : Shape) → Operands d M N s i n l r a b → Always d M s i e l r a b
      → SlotIs d i (slot_by (opening M (formula_by s n a b)) (open_left s e l) (open_right s e r)) → Drafted d (opening M (formula_by s n a b)) i
  unfolding opening
  opening-drafted none h g x = x
  opening-drafted (constant c) h g x = x
  opening-drafted (letter c) h g x = (h.letter_small refl, x)
  opening-drafted (unary o) h g x = let q = h.right_form refl Opening in (place Opening r, q.0, q.1, x)
  opening-drafted (binary conj) h g x = kept conj h x
  opening-drafted (binary disj) h g x = kept disj h x
  opening-drafted (binary until) h g x = kept until h x
  opening-drafted {e} (binary weak) h g x = both d i (place Opening l) e (opening M a) (bin disj (opening M b) (G (steady M a))) (h.left_form refl Opening) (g.of_weak refl) until x
  opening-drafted {e} (binary release) h g x = both d i e (place Opening r) (bin disj (opening M a) (G (steady M b))) (opening M b) (g.of_release refl) (h.right_form refl Opening) strong x
  opening-drafted (binary strong) h g x = kept strong h x
  opening-drafted (binary implies) h g x = kept implies h x

-- the or, from the two operands of which it is made
pub always-drafted : {d : List ℕ} (φ ψ : Formula) (g e x y : ℕ) → SlotIs d 0 (pack 1 0 0) → SlotIs d g (globally_slot x) → SlotIs d e (pack (binary_kind disj) y g)
    → 0 < g → x < g → y < e → g < e → Drafted d φ y → Drafted d ψ x → Drafted d (bin disj φ (G ψ)) e
always-drafted φ ψ g e x y s p q a b c k m n = (y, g, c, k, m, (0, x, a, b, s, n, p), q)
