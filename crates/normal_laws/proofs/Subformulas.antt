-- The formulas of an accepted plain table are the subformulas of its rule, and they are plain.
use Prim.Native.Nat.{ℕ, zero, suc, ◌-◌, ◌≤◌, ◌<◌}
use native.Mathlib.Omega.{arith}
use mathlib.Core.Path.{◌≡◌, refl, subst}
use mathlib.Core.Bool.{Bool, true, false, ◌&&◌}
use mathlib.Core.List.{List, Memᴰ}
use lib.ListN.{length, get_or}
use lib.Dec.{T}
use Rattle.logic.specs.Formula.{Formula, Binary, next, neg, finally, globally, conj, disj, until, weak, release, strong, implies}
use Rattle.logic.specs.NegationNormalForm.{is_plain, plain_binary}
use Rattle.table.specs.Node.{Shape, none, constant, letter, unary, binary, kind, left, right, shape, kind_of, binary_kind, left_field, right_field}
use Rattle.table.specs.Table.{formulas, formula_of, formula_by, rule}
use Rattle.table.specs.Steps.{fixpoints}
use Rattle.table.specs.Checks.{is_operand, is_proposition}
use Rattle.table.proofs.Accepted.{WellFormed, accepted-formula}
use Rattle.table.proofs.Shapes.{kind_of-shape}
use Rattle.table.proofs.Formulas.{length-formulas}
use Rattle.numbering.proofs.Accepted.{Plain, plain_small}
use Rattle.numbering.proofs.Formulas.{Ordered}
use Rattle.numbering.proofs.Lengths.{held_formulas}
use Rattle.numbering.proofs.Subformulas.{word-sub}
use Rattle.transforms.specs.Subformula.{Sub, Numbers}
use Rattle.transforms.proofs.Normal.Membership.{numbers_keep, mem_place}
use Rattle.normal_laws.proofs.Distinct.{formula_held}

both : (a b : Bool) → T a → T b → T (a && b)
both true b p q = q
both false b p q = absurd p

-- a word's formula is plain where its operands' are; no plain kind stands for not, F, G or implies
plain_by : (s : Shape) → 0 < kind_of s → kind_of s < 12 → (n : ℕ) (a b : Formula) → (is_proposition (right_field s) ≡ true → (0 < n) × (n ≤ 32))
    → (is_operand (left_field s) ≡ true → Plain a) → (is_operand (right_field s) ≡ true → Plain b) → Plain (formula_by s n a b)
unfolding is_plain
plain_by none h k n a b l p q = absurd (omega arith)
plain_by (constant c) h k n a b l p q = (tt, tt)
plain_by (letter c) h k n a b l p q = (tt, l refl)
plain_by (unary next) h k n a b l p q = q refl
plain_by (unary neg) h k n a b l p q = absurd (omega arith)
plain_by (unary finally) h k n a b l p q = absurd (omega arith)
plain_by (unary globally) h k n a b l p q = absurd (omega arith)
plain_by (binary o) h k n a b l p q =
    (both (plain_binary o && is_plain a) (is_plain b) (both (plain_binary o) (is_plain a) (plain-operator o k) (p refl).0) (q refl).0, ((p refl).1, (q refl).1))
  where
    plain-operator : (o : Binary) → binary_kind o < 12 → T (plain_binary o)
    plain-operator conj k = tt
    plain-operator disj k = tt
    plain-operator until k = tt
    plain-operator weak k = tt
    plain-operator release k = tt
    plain-operator strong k = tt
    plain-operator implies k = absurd (omega arith)

module _ {limit : ℕ} {t : List ℕ} (small : limit ≤ 16383) (f : WellFormed true limit t) where
  -- every word's formula is plain
  plain_below : (n j : ℕ) → j ≤ n → 0 < j → j ≤ length t → Plain (formula_of (formulas t) j)
  unfolding formula_of
  plain_below zero j a p h = absurd (omega arith)
  plain_below (suc n) zero a p h = absurd (omega arith)
  plain_below (suc n) (suc i) a p h =
      let w : ℕ = get_or t i 0 in
      let x = f.word i (omega arith) in
      let kinds : kind_of (shape (kind w)) ≡ kind w = kind_of-shape (kind w) (omega (arith, x.plain refl)) in
      rw (accepted-formula f i (omega arith))
      (plain_by (shape (kind w)) (rw kinds x.kinded) (rw kinds (x.plain refl)) (right w) _ _ x.letter
      (λ o. let y = x.operand_left o in plain_below n (left w) (omega (arith, y.1)) y.0 (omega (arith, y.1)))
      (λ o. let y = x.operand_right o in plain_below n (right w) (omega (arith, y.1)) y.0 (omega (arith, y.1))))

  pub word-plain : (j : ℕ) → 0 < j → j ≤ length t → Plain (formula_of (formulas t) j)
  word-plain j p h = plain_below j j (omega arith) p h

  pub rule-plain : Plain (rule t)
  unfolding rule
  rule-plain = word-plain (length t) f.some (omega arith)

  ordered : Ordered t
  ordered = record {
    left_earlier = λ i h e. omega (arith, ((f.word i h).operand_left e).1);
    right_earlier = λ i h e. omega (arith, ((f.word i h).operand_right e).1);
  }

  -- every subformula of the rule is a word's formula
  pub complete : (ψ : Formula) → Sub ψ (rule t) → Memᴰ ψ (formulas t)
  unfolding rule
  complete =
      held_formulas t ordered (omega (arith, f.few)) (rule t) (length t) (plain_small (rule t) rule-plain.1) (formula_held f (length t) f.some (omega arith))

  pub inside : (ψ : Formula) → Memᴰ ψ (formulas t) → Sub ψ (rule t)
  unfolding formula_of
  inside ψ m =
      let p = mem_place m in
      let l : p.0 < length t = omega (arith, p.1, length-formulas t) in
      subst (λ (χ : Formula). Sub χ (rule t)) p.2 (word-sub f (suc p.0) (omega arith) l)

  -- the until-like words number the fixpoint subformulas of the rule
  pub fixpoints-number : Numbers (fixpoints t) (rule t)
  unfolding fixpoints
  fixpoints-number = numbers_keep (formulas t) complete inside
