-- The kind of a slot that stands for a formula is that of the formula's operator; so it tells a constant.
use Prim.Native.Nat.{ℕ, ◌^◌, ◌<◌}
use native.Mathlib.Omega.{arith}
use mathlib.Core.Path.{◌≡◌, refl, sym, ap, ◌∙◌}
use mathlib.Core.Bool.{Bool, cond}
use mathlib.Core.List.{List}
use lib.ListN.{get_or}
use Rattle.logic.specs.Formula.{Formula, const, lit, un, bin}
use Rattle.transforms.specs.Folding.{Fold, by_constant}
use Rattle.table.specs.Node.{Shape, constant, letter, unary, binary, shape, unary_kind, binary_kind}
use Rattle.table.proofs.Shapes.{shape-unary, shape-binary, shape-constant, shape-letter}
use Rattle.slots.specs.Slot.{kind}
use Rattle.slots.proofs.Fields.{kind-pack}
use Rattle.drafts.specs.Drafted.{Drafted}
use Rattle.fold_rules.specs.Rules.{constantly}

-- the shape of a formula's operator
abbrev root_shape : Formula → Shape
root_shape (const b) = constant b
root_shape (lit b p) = letter b
root_shape (un o a) = unary o
root_shape (bin o a b) = binary o

module _ (e : List ℕ) (i : ℕ) (narrow : i < 2 ^ 20) where
  slot-shape : (φ : Formula) → Drafted e φ i → shape (kind (get_or e i 0)) ≡ root_shape φ
  slot-shape (const b) r = rw (r.is, kind-pack (cond b 2 1) 0 0 (omega arith) (omega arith)) (shape-constant b)
  slot-shape (lit b p) r = rw (r.1.is, kind-pack (cond b 3 4) 0 p (omega arith) (omega (arith, r.0))) (shape-letter b)
  slot-shape (un o a) r = rw (r.3.is, kind-pack (unary_kind o) 0 r.0 (omega arith) (omega (arith, r.1))) (shape-unary o)
  slot-shape (bin o a b) r = rw (r.6.is, kind-pack (binary_kind o) r.0 r.1 (omega (arith, r.2)) (omega (arith, r.3))) (shape-binary o)

  pub slot-constantly : (f : Bool → Fold) (φ : Formula) → Drafted e φ i → constantly f (shape (kind (get_or e i 0))) ≡ by_constant f φ
  slot-constantly f φ r = ap (constantly f) (slot-shape φ r) ∙ go φ
    where
      go : (φ : Formula) → constantly f (root_shape φ) ≡ by_constant f φ
      go (const b) = refl
      go (lit b p) = refl
      go (un o a) = refl
      go (bin o a b) = refl

  -- a constant by its kind, 2 for true and 1 for false
  pub kind-constant : (b : Bool) (φ : Formula) → Drafted e φ i → kind (get_or e i 0) ≡ cond b 2 1 → φ ≡ const b
  kind-constant b φ r q = go φ (sym (slot-shape φ r) ∙ ap shape q ∙ shape-constant b)
    where
      go : (φ : Formula) → root_shape φ ≡ constant b → φ ≡ const b
      go (const c) z = cc
      go (lit c p) z = absurd (let n : ◌≡◌ {A = ℕ} 0 1 = cc in omega arith)
      go (un o a) z = absurd (let n : ◌≡◌ {A = ℕ} 0 1 = cc in omega arith)
      go (bin o a c) z = absurd (let n : ◌≡◌ {A = ℕ} 0 1 = cc in omega arith)

-- and no constant by its kind
pub constant-kind : (e : List ℕ) (i : ℕ) (b : Bool) → Drafted e (const b) i → kind (get_or e i 0) ≡ cond b 2 1
constant-kind e i b r = ap kind r.is ∙ kind-pack (cond b 2 1) 0 0 (omega arith) (omega arith)
