-- The shapes of the kinds of the operators, and of the words made for them.
use Prim.Native.Nat.{ℕ, zero, suc, ◌≤◌, ◌<◌}
use native.Mathlib.Nat.{not-suc-le-zero, le_of_suc-le-suc, eq-or-lt_of_le}
use native.Mathlib.Omega.{arith}
use mathlib.Core.Path.{◌≡◌, refl, ap, subst, ◌∙◌}
use mathlib.Core.Bool.{Bool, true, false, cond, ◌&&◌, false≢true}
use mathlib.Core.Logic.{◌⊎◌, inl, inr}
use lib.ListN.{get_or-eq_default}
use lib.Dec.{lit<, eqb}
use borrow.Author.Tests.{eqb-true}
use Rattle.logic.specs.Formula.{Unary, Binary, next, neg, finally, globally, conj, disj, until, weak, release, strong, implies}
use Rattle.logic.proofs.Numbers.{lt_or_le}
use Rattle.table.specs.Node.{Shape, none, constant, letter, unary, binary, kind, pack, shapes, shape, unary_kind, binary_kind, kind_of}
use Rattle.table.specs.Numbering.{constant_word, literal_word}
use Rattle.table.proofs.Fields.{kind-pack}

-- the kinds of the operators stand for them
pub shape-unary : (o : Unary) → shape (unary_kind o) ≡ unary o
unfolding shape
shape-unary next = refl
shape-unary neg = refl
shape-unary finally = refl
shape-unary globally = refl

pub shape-binary : (o : Binary) → shape (binary_kind o) ≡ binary o
unfolding shape
shape-binary conj = refl
shape-binary disj = refl
shape-binary until = refl
shape-binary weak = refl
shape-binary release = refl
shape-binary strong = refl
shape-binary implies = refl

pub shape-constant : (b : Bool) → shape (cond b 2 1) ≡ constant b
unfolding shape
shape-constant true = refl
shape-constant false = refl

pub shape-letter : (b : Bool) → shape (cond b 3 4) ≡ letter b
unfolding shape
shape-letter true = refl
shape-letter false = refl

-- `kind_of` undoes `shape`, and `shape` undoes `kind_of`
pub shape-kind_of : (s : Shape) → shape (kind_of s) ≡ s
unfolding shape
shape-kind_of none = refl
shape-kind_of (constant b) = shape-constant b
shape-kind_of (letter b) = shape-letter b
shape-kind_of (unary o) = shape-unary o
shape-kind_of (binary o) = shape-binary o

-- a test that is passed below n
passes : (ℕ → Bool) → ℕ → Bool
passes p zero = true
passes p (suc n) = p n && passes p n

passes_at : (p : ℕ → Bool) (n k : ℕ) → passes p n ≡ true → k < n → p k ≡ true
unfolding passes
passes_at p zero k e h = absurd (not-suc-le-zero h)
passes_at p (suc n) k e h = go (p n) refl (passes_at p n k) e (eq-or-lt_of_le (le_of_suc-le-suc h))
  where
    go : (b : Bool) → p n ≡ b → (passes p n ≡ true → k < n → p k ≡ true) → (b && passes p n) ≡ true → (k ≡ n) ⊎ (k < n) → p k ≡ true
    go true b f e (inl q) = ap p q ∙ b
    go true b f e (inr q) = f e q
    go false b f e q = absurd (false≢true e)

pub kind_of-shape : (k : ℕ) → k < 16 → kind_of (shape k) ≡ k
unfolding shape passes
kind_of-shape k h = eqb-true _ _ (passes_at (λ n. eqb (kind_of (shape n)) n) 16 k refl h)

-- what the words of the operators are, by shape
pub shape-constant_word : (b : Bool) → shape (kind (constant_word b)) ≡ constant b
shape-constant_word b = ap shape (kind-pack (cond b 2 1) 0 0 (lit< tt) (lit< tt)) ∙ shape-constant b

pub shape-literal_word : (b : Bool) (p : ℕ) → p < 16384 → shape (kind (literal_word b p)) ≡ letter b
shape-literal_word b p h = ap shape (kind-pack (cond b 3 4) 0 p (lit< tt) h) ∙ shape-letter b

pub shape_unary_word : (o : Unary) (m : ℕ) → m < 16384 → shape (kind (pack (unary_kind o) 0 m)) ≡ unary o
shape_unary_word o m h = ap shape (kind-pack (unary_kind o) 0 m (lit< tt) h) ∙ shape-unary o

pub shape_binary_word : (o : Binary) (l r : ℕ) → l < 16384 → r < 16384 → shape (kind (pack (binary_kind o) l r)) ≡ binary o
shape_binary_word o l r hl hr = ap shape (kind-pack (binary_kind o) l r hl hr) ∙ shape-binary o

-- a kind that stands for something is one of 1 to 15
abbrev pub Known : Shape → Type 0
Known none = ⊥
Known (constant b) = Unit {0}
Known (letter b) = Unit {0}
Known (unary o) = Unit {0}
Known (binary o) = Unit {0}

pub known-kind : (k : ℕ) → Known (shape k) → (0 < k) × (k < 16)
unfolding shape
known-kind zero h = absurd h
known-kind (suc n) h = go (lt_or_le (suc n) 16)
  where
    go : (suc n < 16) ⊎ (16 ≤ suc n) → (0 < suc n) × (suc n < 16)
    go (inl l) = (omega arith, l)
    go (inr l) = absurd (subst Known (get_or-eq_default shapes none l) h)
