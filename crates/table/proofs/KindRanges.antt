-- What the kinds in each range of a match stand for.
use Prim.Native.Nat.{ℕ, suc, ◌≤◌, ◌<◌}
use native.Mathlib.Omega.{arith}
use native.Mathlib.Nat.{eq-or-lt_of_le}
use mathlib.Core.Path.{◌≡◌, refl, sym, ap, ◌∙◌}
use mathlib.Core.Logic.{◌⊎◌, inl, inr}
use mathlib.Core.Bool.{Bool, true, false, cond}
use Rattle.logic.specs.Formula.{Binary, next, neg, finally, globally}
use Rattle.table.specs.Node.{Shape, none, constant, letter, unary, binary, kind, shape, kind_of, binary_kind}
use borrow.Author.Tests.{le-leb, lt-leb}
use Rattle.table.specs.StepChecks.{is_fixpoint_word}
use Rattle.table.proofs.Shapes.{kind_of-shape, shape-constant, shape-letter}

pub two : (n k : ℕ) → n ≤ k → k < suc (suc n) → (k ≡ n) ⊎ (k ≡ suc n)
two n k h l = go (eq-or-lt_of_le h)
  where
    go : (n ≡ k) ⊎ (n < k) → (k ≡ n) ⊎ (k ≡ suc n)
    go (inl e) = inl (sym e)
    go (inr m) = inr (omega arith)

pub constants : (k : ℕ) → 1 ≤ k → k < 3 → (b : Bool) × (k ≡ cond b 2 1) × (shape k ≡ constant b)
constants k h l = go (two 1 k h l)
  where
    go : (k ≡ 1) ⊎ (k ≡ 2) → (b : Bool) × (k ≡ cond b 2 1) × (shape k ≡ constant b)
    go (inl e) = (false, e, ap shape e ∙ shape-constant false)
    go (inr e) = (true, e, ap shape e ∙ shape-constant true)

pub letters : (k : ℕ) → 3 ≤ k → k < 5 → (b : Bool) × (k ≡ cond b 3 4) × (shape k ≡ letter b)
letters k h l = go (two 3 k h l)
  where
    go : (k ≡ 3) ⊎ (k ≡ 4) → (b : Bool) × (k ≡ cond b 3 4) × (shape k ≡ letter b)
    go (inl e) = (true, e, ap shape e ∙ shape-letter true)
    go (inr e) = (false, e, ap shape e ∙ shape-letter false)

-- the plain kinds from 5 on, but for that of X
pub operators : (k : ℕ) → 5 ≤ k → k < 12 → (k ≡ 7 → ⊥) → (o : Binary) × (k ≡ binary_kind o) × (shape k ≡ binary o)
operators k h l f = go (shape k) refl (kind_of-shape k (omega arith))
  where
    go : (s : Shape) → shape k ≡ s → kind_of s ≡ k → (o : Binary) × (k ≡ binary_kind o) × (shape k ≡ binary o)
    go none e q = absurd (omega arith)
    go (constant true) e q = absurd (omega arith)
    go (constant false) e q = absurd (omega arith)
    go (letter true) e q = absurd (omega arith)
    go (letter false) e q = absurd (omega arith)
    go (unary next) e q = absurd (f (sym q))
    go (unary neg) e q = absurd (omega arith)
    go (unary finally) e q = absurd (omega arith)
    go (unary globally) e q = absurd (omega arith)
    go (binary o) e q = (o, sym q, e)

-- the kinds 8 to 11
pub fixpoint_within : (w : ℕ) {k : ℕ} → k ≡ kind w → 8 ≤ k → k < 12 → true ≡ is_fixpoint_word w
fixpoint_within w e a b = simp (le-leb 8 (kind w) (omega arith), le-leb (kind w) 11 (omega arith))

pub fixpoint_below : (w : ℕ) {k : ℕ} → k ≡ kind w → k < 8 → false ≡ is_fixpoint_word w
fixpoint_below w e a = simp (lt-leb 8 (kind w) (omega arith))

pub fixpoint_above : (w : ℕ) {k : ℕ} → k ≡ kind w → 12 ≤ k → false ≡ is_fixpoint_word w
fixpoint_above w e a = simp (le-leb 8 (kind w) (omega arith), lt-leb (kind w) 11 (omega arith))
