-- The checks of a word by the layout of its kind.
use Prim.Native.Nat.{ℕ}
use mathlib.Core.Path.{◌≡◌, refl, ap}
use mathlib.Core.Bool.{Bool, true, false, not, ◌&&◌, ◌||◌, or-false}
use mathlib.Core.List.{[]}
use lib.Dec.{leb, eqb}
use Rattle.refusals.specs.declared.Refusal.{Refusal}
use Rattle.refusals.specs.Refusals.{Outcome}
use Rattle.std.specs.Prelude.{Ok}
use Rattle.refusals.specs.declared.Refusal.TheVariants.{KindZero, NotPlain, FieldNotZero}
use Rattle.refusals.specs.Refusals.{first, decide_by}
use Rattle.table.specs.Node.{Shape, none, constant, letter, unary, binary, kind, left, right, shape}
use Rattle.table.specs.Checks.{occurs, word_checks}
use Rattle.layouts.specs.declared.Layout.TheVariants.{Constant}
use Rattle.layouts.specs.Layout.{layout_of}
use Rattle.field_faults.specs.Layout.{field_checks}

decide_or : (a b : Bool) (r : Refusal) (o : Outcome) → decide_by (a || b) r o ≡ decide_by a r (decide_by b r o)
decide_or true b r o = refl
decide_or false b r o = refl

-- kind 0, then the kinds that are not plain, then the fields by their layout
pub word_by_layout : (p : Bool) (n w : ℕ)
    → first (word_checks p [] n w)
    ≡ decide_by (eqb (kind w) 0) (KindZero n) (decide_by (p && leb 12 (kind w)) (NotPlain n) (first (field_checks (layout_of (shape (kind w))) (left w) (right w) n)))
unfolding word_checks occurs
word_by_layout p n w = go (shape (kind w)) refl
  where
    two : decide_by (not (eqb (left w) 0) || not (eqb (right w) 0)) (FieldNotZero n) (Ok tt) ≡ first (field_checks Constant (left w) (right w) n)
    two = decide_or (not (eqb (left w) 0)) (not (eqb (right w) 0)) (FieldNotZero n) (Ok tt)

    go : (s : Shape) → shape (kind w) ≡ s → first (word_checks p [] n w) ≡ decide_by (eqb (kind w) 0) (KindZero n) (decide_by (p && leb 12 (kind w)) (NotPlain n) (first (field_checks (layout_of (shape (kind w))) (left w) (right w) n)))
    go none e = rw e (ap (λ (o : Outcome). decide_by (eqb (kind w) 0) (KindZero n) (decide_by (p && leb 12 (kind w)) (NotPlain n) o)) two)
    go (constant b) e = rw e (ap (λ (o : Outcome). decide_by (eqb (kind w) 0) (KindZero n) (decide_by (p && leb 12 (kind w)) (NotPlain n) o)) two)
    go (letter b) e = rw (e, or-false)
    go (unary o) e = rw (e, or-false)
    go (binary o) e = rw e
