-- Plain formulas as an inductive family, by which the proofs go, and laws of subformulas.
use mathlib.Core.Bool.{Bool, ◌&&◌}
use lib.Dec.{T}
use Prim.Native.Nat.{ℕ}
use Rattle.logic.specs.Formula.{Formula, Unary, Binary, const, lit, un, bin, next, neg, finally, globally, conj, disj, until, weak, release, strong, implies}
use Rattle.logic.specs.NegationNormalForm.{plain_binary, is_plain}
use Rattle.transforms.specs.NormalForm.{is_least, is_greatest}
use Rattle.transforms.specs.Subformula.{Sub, self, under, left, right}
use Rattle.logic.proofs.Tests.{T_and}

pub data Plain : Formula → Type 0 where
  constant : {b : Bool} → Plain (const b)
  literal : {b : Bool} {n : ℕ} → Plain (lit b n)
  step : {a : Formula} → Plain a → Plain (un next a)
  join : {o : Binary} {a b : Formula} → T (plain_binary o) → Plain a → Plain b → Plain (bin o a b)

-- structural induction; at an operator it is known to stand in the formula
pub plain_induction : (X : Formula → Type 0)
    → ((c : Bool) → X (const c)) → ((c : Bool) (n : ℕ) → X (lit c n)) → ((a : Formula) → X a → X (un next a))
    → {φ : Formula} → Plain φ
    → ((o : Binary) (a b : Formula) → Sub (bin o a b) φ → T (plain_binary o) → Plain a → Plain b → X a → X b → X (bin o a b)) → X φ
plain_induction X k l n (constant {b}) h = k b
plain_induction X k l n (literal {b} {n = m}) h = l b m
plain_induction X k l n (step {a} p) h = n a (plain_induction X k l n p (λ o a b s. h o a b (under s)))
plain_induction X k l n (join {o} {a} {b} t p q) h =
    h o a b self t p q (plain_induction X k l n p (λ o a b s. h o a b (left s))) (plain_induction X k l n q (λ o a b s. h o a b (right s)))

pub plain-formula : (φ : Formula) → T (is_plain φ) → Plain φ
unfolding is_plain
plain-formula (const b) t = constant
plain-formula (lit b n) t = literal
plain-formula (un next a) t = step (plain-formula a t)
plain-formula (un neg a) t = absurd t
plain-formula (un finally a) t = absurd t
plain-formula (un globally a) t = absurd t
plain-formula (bin o a b) t =
    let ab = (T_and (plain_binary o && is_plain a) (is_plain b)).0 t in
    let oa = (T_and (plain_binary o) (is_plain a)).0 ab.0 in
    join oa.0 (plain-formula a oa.1) (plain-formula b ab.1)

pub plain-sub : {ψ φ : Formula} → Sub ψ φ → Plain φ → Plain ψ
plain-sub self p = p
plain-sub (under s) (step p) = plain-sub s p
plain-sub (left s) (join t p q) = plain-sub s p
plain-sub (right s) (join t p q) = plain-sub s q

pub sub_trans : {χ ψ φ : Formula} → Sub χ ψ → Sub ψ φ → Sub χ φ
sub_trans s self = s
sub_trans s (under r) = under (sub_trans s r)
sub_trans s (left r) = left (sub_trans s r)
sub_trans s (right r) = right (sub_trans s r)

-- no formula is a least and a greatest fixpoint
pub exclusive : (ψ : Formula) → T (is_least ψ) → T (is_greatest ψ) → ⊥
exclusive (const c) l g = l
exclusive (lit c n) l g = l
exclusive (un o a) l g = l
exclusive (bin conj a b) l g = l
exclusive (bin disj a b) l g = l
exclusive (bin until a b) l g = g
exclusive (bin weak a b) l g = l
exclusive (bin release a b) l g = l
exclusive (bin strong a b) l g = g
exclusive (bin implies a b) l g = l

-- what is so of a formula and of the subformulas of its operands is so of all its subformulas
pub sub-constant : (X : Formula → Type 0) {c : Bool} → X (const c) → (ψ : Formula) → Sub ψ (const c) → X ψ
sub-constant X x ψ self = x

pub sub-literal : (X : Formula → Type 0) {c : Bool} {n : ℕ} → X (lit c n) → (ψ : Formula) → Sub ψ (lit c n) → X ψ
sub-literal X x ψ self = x

pub sub-unary : (X : Formula → Type 0) {o : Unary} {a : Formula} → X (un o a) → ((ψ : Formula) → Sub ψ a → X ψ) → (ψ : Formula) → Sub ψ (un o a) → X ψ
sub-unary X x f ψ self = x
sub-unary X x f ψ (under s) = f ψ s

pub sub-binary : (X : Formula → Type 0) {o : Binary} {a b : Formula} → X (bin o a b) → ((ψ : Formula) → Sub ψ a → X ψ)
    → ((ψ : Formula) → Sub ψ b → X ψ) → (ψ : Formula) → Sub ψ (bin o a b) → X ψ
sub-binary X x f g ψ self = x
sub-binary X x f g ψ (left s) = f ψ s
sub-binary X x f g ψ (right s) = g ψ s
