-- The rule of a kind: that of the operator whose kind it is, and none for the kinds that are left.
use Prim.Native.Nat.{ℕ}
use mathlib.Core.Path.{◌≡◌, refl, sym, ap, ap₂, ◌∙◌, subst}
use mathlib.Core.Bool.{Bool, true, false}
use Rattle.logic.specs.Formula.{Binary, next, neg, finally, globally, conj, disj, until, weak, release, strong, implies}
use Rattle.transforms.specs.Folding as folding
use Rattle.transforms.specs.Folding.{on_left, on_right}
use Rattle.table.specs.Node.{Shape, none, constant, letter, unary, binary, shape, binary_kind, kind_of}
use Rattle.table.proofs.Shapes.{shape-unary, shape-binary, kind_of-shape}
use Rattle.table.proofs.Shapes.{Known, known-kind}
use Rattle.fold_rules.specs.Rules.{left_rule, right_rule, constantly}

-- a kind that stands for something is that of its shape
shape-kind : (k : ℕ) (s : Shape) → shape k ≡ s → Known s → k ≡ kind_of s
shape-kind k s e h = sym (kind_of-shape k (known-kind k (subst Known (sym e) h)).1) ∙ ap kind_of e

module _ (k : ℕ) (c : Bool) where
  pub left_at : (o : Binary) (b : Bool) → k ≡ binary_kind o → c ≡ b → left_rule (shape k) c ≡ on_left o b
  left_at o b e q = ap₂ left_rule (ap shape e ∙ shape-binary o) q

  pub right_at : (o : Binary) (b : Bool) → k ≡ binary_kind o → c ≡ b → right_rule (shape k) c ≡ on_right o b
  right_at o b e q = ap₂ right_rule (ap shape e ∙ shape-binary o) q

  pub right_next : k ≡ 7 → right_rule (shape k) c ≡ folding.right
  right_next e = ap (λ (s : Shape). right_rule s c) (ap shape e ∙ shape-unary next)

  module _ (and : k ≡ 5 → ⊥) (or : k ≡ 6 → ⊥) (u : k ≡ 8 → ⊥) (w : k ≡ 9 → ⊥) (r : k ≡ 10 → ⊥) (m : k ≡ 11 → ⊥) where
    -- of the operators with two operands only implies is left, which has no rule
    only_implies : (o : Binary) → k ≡ binary_kind o → (f : Binary → Bool → folding.Fold) → f implies c ≡ folding.stands → f o c ≡ folding.stands
    only_implies conj e f i = absurd (and e)
    only_implies disj e f i = absurd (or e)
    only_implies until e f i = absurd (u e)
    only_implies weak e f i = absurd (w e)
    only_implies release e f i = absurd (r e)
    only_implies strong e f i = absurd (m e)
    only_implies implies e f i = i

    pub left_none : left_rule (shape k) c ≡ folding.stands
    left_none = go (shape k) refl
      where
        go : (s : Shape) → shape k ≡ s → left_rule s c ≡ folding.stands
        go none e = refl
        go (constant b) e = refl
        go (letter b) e = refl
        go (unary o) e = refl
        go (binary o) e = only_implies o (shape-kind k (binary o) e tt) on_left refl

    pub right_none : (k ≡ 7 → ⊥) → right_rule (shape k) c ≡ folding.stands
    right_none x = go (shape k) refl
      where
        go : (s : Shape) → shape k ≡ s → right_rule s c ≡ folding.stands
        go none e = refl
        go (constant b) e = refl
        go (letter b) e = refl
        go (unary next) e = absurd (x (shape-kind k (unary next) e tt))
        go (unary neg) e = refl
        go (unary finally) e = refl
        go (unary globally) e = refl
        go (binary o) e = only_implies o (shape-kind k (binary o) e tt) on_right refl

-- an operand that is no constant makes nothing of a word
pub constantly_none : (f : Bool → folding.Fold) (k : ℕ) → (k ≡ 1 → ⊥) → (k ≡ 2 → ⊥) → constantly f (shape k) ≡ folding.stands
constantly_none f k p q = go (shape k) refl
  where
    go : (s : Shape) → shape k ≡ s → constantly f s ≡ folding.stands
    go none e = refl
    go (constant true) e = absurd (q (shape-kind k (constant true) e tt))
    go (constant false) e = absurd (p (shape-kind k (constant false) e tt))
    go (letter b) e = refl
    go (unary o) e = refl
    go (binary o) e = refl
