-- The conversion of a formula beside the formula itself: where its operands are held, and the kinds of its words.
use Prim.Native.Nat.{ℕ, ◌<◌}
use native.Mathlib.Omega.{arith}
use mathlib.Core.Path.{◌≡◌}
use mathlib.Core.Bool.{Bool, true, false, ◌&&◌, cond}
use mathlib.Core.List.{List}
use lib.ListN.{length, get_or}
use lib.Dec.{T, lit<}
use Rattle.logic.specs.Formula.{Formula, Unary, Binary, const, lit, un, bin, next, neg, finally, globally, conj, disj, until, weak, release, strong, implies}
use Rattle.logic.specs.Letters.{Letters}
use Rattle.transforms.specs.Subformula.{Sub, self, under, left, right}
use Rattle.transforms.specs.Dialect.{dialect, dialect_op, free_op, is_free}
use Rattle.logic.proofs.Tests.{T_and}
use Rattle.table.specs.Node.{kind, unary_kind, binary_kind}
use Rattle.table.proofs.Fields.{kind-pack}
use Rattle.numbering.specs.Held.{Held}
use Rattle.numbering.proofs.Building.{held_within}
use Rattle.numbering.proofs.Built.{Made, Hereditary}

-- where the conversion of a formula is held, so are those of its subformulas
held_left : (t : List ℕ) (o : Binary) (a b : Formula) (n : ℕ) → Held t (dialect_op o a b) n → (m : ℕ) × Held t a m
held_left t conj a b n h = (h.0, h.2)
held_left t disj a b n h = (h.0, h.2)
held_left t until a b n h = (h.0, h.2)
held_left t weak a b n h = (h.3.0, h.3.2)
held_left t release a b n h = (h.0, h.2)
held_left t strong a b n h = (h.3.0, h.3.2)
held_left t implies a b n h = (h.0, h.2)

held_right : (t : List ℕ) (o : Binary) (a b : Formula) (n : ℕ) → Held t (dialect_op o a b) n → (m : ℕ) × Held t b m
held_right t conj a b n h = (h.1, h.3)
held_right t disj a b n h = (h.1, h.3)
held_right t until a b n h = (h.1, h.3)
held_right t weak a b n h = (h.0, h.2)
held_right t release a b n h = (h.1, h.3)
held_right t strong a b n h = (h.0, h.2)
held_right t implies a b n h = (h.1, h.3)

pub sub_held : (t : List ℕ) {ψ φ : Formula} → Sub ψ φ → (n : ℕ) → Held t (dialect φ) n → (m : ℕ) × Held t (dialect ψ) m
unfolding dialect
sub_held t self n h = (n, h)
sub_held t (under s) n h = sub_held t s h.0 h.1
sub_held t (left {o} {a} {b} s) n h = let g = held_left t o (dialect a) (dialect b) n h in sub_held t s g.0 g.1
sub_held t (right {o} {a} {b} s) n h = let g = held_right t o (dialect a) (dialect b) n h in sub_held t s g.0 g.1

-- a formula without W and M, whose letters fit the field of a word
abbrev pub FreeFormula : Formula → Type 0
FreeFormula φ = T (is_free φ) × Letters (λ p. p < 16384) φ

free-bin : (o : Binary) (a b : Formula) → T (is_free (bin o a b)) → T (free_op o && is_free a) × T (is_free b)
unfolding is_free
free-bin o a b h = (T_and (free_op o && is_free a) (is_free b)).0 h

free-un : (o : Unary) (a : Formula) → T (is_free (un o a)) → T (is_free a)
unfolding is_free
free-un o a h = h

pub free_hereditary : Hereditary FreeFormula
free_hereditary = record {
  under = λ o a p. (free-un o a p.0, p.1);
  first = λ o a b p. (((T_and (free_op o) (is_free a)).0 (free-bin o a b p.0).0).1, p.1.0);
  second = λ o a b p. ((free-bin o a b p.0).1, p.1.1);
}

-- a kind that is neither 9 nor 11
abbrev pub Other : ℕ → Type 0
Other k = (k ≡ 9 → ⊥) × (k ≡ 11 → ⊥)

constant_other : (b : Bool) → Other (cond b 2 1)
constant_other true = (λ e. omega arith, λ e. omega arith)
constant_other false = (λ e. omega arith, λ e. omega arith)

letter_other : (b : Bool) → Other (cond b 3 4)
letter_other true = (λ e. omega arith, λ e. omega arith)
letter_other false = (λ e. omega arith, λ e. omega arith)

unary_other : (o : Unary) → Other (unary_kind o)
unary_other next = (λ e. omega arith, λ e. omega arith)
unary_other neg = (λ e. omega arith, λ e. omega arith)
unary_other finally = (λ e. omega arith, λ e. omega arith)
unary_other globally = (λ e. omega arith, λ e. omega arith)

binary_other : (o : Binary) → T (free_op o) → Other (binary_kind o)
binary_other conj t = (λ e. omega arith, λ e. omega arith)
binary_other disj t = (λ e. omega arith, λ e. omega arith)
binary_other until t = (λ e. omega arith, λ e. omega arith)
binary_other weak t = absurd t
binary_other release t = (λ e. omega arith, λ e. omega arith)
binary_other strong t = absurd t
binary_other implies t = (λ e. omega arith, λ e. omega arith)

-- the word of such a formula is neither W nor M
pub made_other : (t : List ℕ) → length t < 16384 → (i : ℕ) (φ : Formula) → FreeFormula φ → Made t i φ → Other (kind (get_or t i 0))
made_other t k i (const b) p m = rw (m, kind-pack (cond b 2 1) 0 0 (lit< tt) (lit< tt)) (constant_other b)
made_other t k i (lit b n) p m = rw (m, kind-pack (cond b 3 4) 0 n (lit< tt) p.1) (letter_other b)
made_other t k i (un o a) p m =
    rw (m.3, kind-pack (unary_kind o) 0 m.0 (lit< tt) (omega (arith, held_within t a m.0 m.1))) (unary_other o)
made_other t k i (bin o a b) p m =
    rw (m.6, kind-pack (binary_kind o) m.0 m.1 (omega (arith, held_within t a m.0 m.2)) (omega (arith, held_within t b m.1 m.3)))
    (binary_other o ((T_and (free_op o) (is_free a)).0 (free-bin o a b p.0).0).0)
