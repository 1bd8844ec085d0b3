-- The formulas of the words of an accepted table are subformulas of its rule.
use Prim.Native.Nat.{ℕ, zero, suc, ◌+◌, ◌≤◌, ◌<◌}
use native.Mathlib.Omega.{arith}
use native.Mathlib.Decide.{ℕ_discrete}
use mathlib.Core.Path.{◌≡◌}
use mathlib.Core.Logic.{◌⊎◌, inl, inr}
use mathlib.Core.Bool.{Bool, true, false, false≢true}
use mathlib.Core.List.{List}
use lib.ListN.{length, get_or}
use lib.Dec.{eqb}
use borrow.Author.Tests.{eqb-true}
use Rattle.logic.specs.Formula.{Formula, const}
use Rattle.transforms.specs.Subformula as subformula
use Rattle.transforms.specs.Subformula.{Sub}
use Rattle.transforms.proofs.Normal.PlainFormula.{sub_trans}
use Rattle.table.specs.Node.{Shape, none, constant, letter, unary, binary, kind, left, right, shape, left_field, right_field}
use Rattle.table.specs.Table.{formulas, formula_of, formula_by, rule}
use Rattle.table.specs.Checks.{is_operand, holds_left, holds_right, uses}
use Rattle.table.proofs.Accepted.{WellFormed, accepted-formula}
use Rattle.numbering.proofs.Used.{used_by, either}

-- an operand's formula is a subformula
sub_left : (s : Shape) (n : ℕ) (a b : Formula) → is_operand (left_field s) ≡ true → Sub a (formula_by s n a b)
sub_left none n a b e = absurd (false≢true e)
sub_left (constant c) n a b e = absurd (false≢true e)
sub_left (letter c) n a b e = absurd (false≢true e)
sub_left (unary o) n a b e = absurd (false≢true e)
sub_left (binary o) n a b e = subformula.left subformula.self

sub_right : (s : Shape) (n : ℕ) (a b : Formula) → is_operand (right_field s) ≡ true → Sub b (formula_by s n a b)
sub_right none n a b e = absurd (false≢true e)
sub_right (constant c) n a b e = absurd (false≢true e)
sub_right (letter c) n a b e = absurd (false≢true e)
sub_right (unary o) n a b e = subformula.under subformula.self
sub_right (binary o) n a b e = subformula.right subformula.self

module _ {plain_only : Bool} {limit : ℕ} {t : List ℕ} (f : WellFormed plain_only limit t) where
  -- an operand's formula is a subformula of its word's
  operand-sub : (i n : ℕ) → i < length t → uses n (get_or t i 0) ≡ true → (n ≤ i) × Sub (formula_of (formulas t) n) (formula_of (formulas t) (suc i))
  unfolding uses formula_of
  operand-sub i n h u = go (either (is_operand (holds_left w)) (eqb (left w) n) (is_operand (holds_right w)) (eqb (right w) n) u)
    where
      w : ℕ
      w = get_or t i 0

      go : ((is_operand (holds_left w) ≡ true) × (eqb (left w) n ≡ true)) ⊎ ((is_operand (holds_right w) ≡ true) × (eqb (right w) n ≡ true))
          → (n ≤ i) × Sub (formula_of (formulas t) n) (get_or (formulas t) i (const false))
      go (inl x) =
          let e : left w ≡ n = eqb-true (left w) n x.1 in
          (omega (arith, ((f.word i h).operand_left x.0).1), rw (← e, accepted-formula f i h) (sub_left (shape (kind w)) (right w) _ _ x.0))
      go (inr x) =
          let e : right w ≡ n = eqb-true (right w) n x.1 in
          (omega (arith, ((f.word i h).operand_right x.0).1), rw (← e, accepted-formula f i h) (sub_right (shape (kind w)) (right w) _ _ x.0))

  -- every word's formula is a subformula of a later word's, up to the rule
  sub_from : (k n : ℕ) → 0 < n → n ≤ length t → length t ≤ n + k → Sub (formula_of (formulas t) n) (rule t)
  unfolding rule
  sub_from zero n p h e = let q : n ≡ length t = omega arith in rw q subformula.self
  sub_from (suc k) n p h e = go (ℕ_discrete n (length t)) (sub_from k)
    where
      go : Dec (n ≡ length t) → ((m : ℕ) → 0 < m → m ≤ length t → length t ≤ m + k → Sub (formula_of (formulas t) m) (formula_of (formulas t) (length t)))
          → Sub (formula_of (formulas t) n) (formula_of (formulas t) (length t))
      go (yes q) r = rw q subformula.self
      go (no q) r =
          let u = used_by n t (f.all_used n p (omega (arith, q))) in
          let s = operand-sub u.0 n u.1 u.2 in
          sub_trans s.1 (r (suc u.0) (omega arith) u.1 (omega (arith, s.0)))

  pub word-sub : (n : ℕ) → 0 < n → n ≤ length t → Sub (formula_of (formulas t) n) (rule t)
  word-sub n p h = sub_from (length t) n p h (omega arith)
