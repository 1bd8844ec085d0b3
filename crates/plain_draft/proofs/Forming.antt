-- How the form of a word stands in a draft once those of its operands do, by the word's kind.
use Prim.Native.Nat.{ℕ, ◌<◌, ◌≤◌}
use native.Mathlib.Omega.{arith}
use mathlib.Core.Path.{◌≡◌, refl, sym, ap, subst, ◌∙◌}
use mathlib.Core.Bool.{Bool, true, not}
use mathlib.Core.List.{List}
use lib.ListN.{length, get_or, set}
use Rattle.logic.specs.Formula.{Formula, Unary, Binary, un, bin, next, neg, finally, globally, disj, until, release, implies}
use Rattle.logic.specs.NegationNormalForm as form
use Rattle.table.specs.Node.{shape, unary_kind, binary_kind, left_field, kind_of}
use Rattle.table.specs.Table.{formulas, formula_of}
use Rattle.table.specs.Checks.{is_operand}
use Rattle.table.proofs.Shapes.{shape-unary, shape-binary, kind_of-shape}
use Rattle.slots.specs.Slot.{pack, Stored}
use Rattle.drafts.specs.Drafted.{Drafted}
use Rattle.drafts.proofs.Drafts.{slot-set}
use Rattle.source.specs.Kinds.{signed_kind}
use Rattle.source.specs.Source.{Earlier, WordAt}
use Rattle.plain_laws.specs.Forms.{form_of, slot_of}
use Rattle.plain_draft.specs.Forming.{Asked, Formed}
use Rattle.plain_draft.proofs.Shapes.{right_by, leaf_by, IsOperator, Operator, operator_by}
use Rattle.plain_laws.proofs.Slots.{slot_bounds}
use Rattle.plain_draft.proofs.Filling.{slot-inside, drafted_kept, stored-form, formed_then, asked_then, constant-form, constant-formed}

-- all but constants and letters have a right operand
pub right_earlier : {t : List ℕ} {j k l r : ℕ} → WordAt t j k l r → 5 ≤ k → Earlier r j
right_earlier {k = k} word h = word.right_operand (right_by (shape k) (omega (arith, kind_of-shape k word.below)))

pub not_earlier : {t : List ℕ} {j k l r : ℕ} → WordAt t j k l r → k ≡ 12 → Earlier r j
not_earlier word h = right_earlier word (omega arith)

-- the form of a word, by the operator that its kind stands for
module _ (u : Unary) {t : List ℕ} {j k l r : ℕ} (word : WordAt t j k l r) (e : k ≡ unary_kind u) where
  unary_of : (p : Bool) → form_of p t j ≡ form.plain p (un u (formula_of (formulas t) r))
  unary_of p = ap (form.plain p) (word.formula ∙ rw (e, shape-unary u))

module _ (b : Binary) {t : List ℕ} {j k l r : ℕ} (word : WordAt t j k l r) (e : k ≡ binary_kind b) where
  pub left_binary : Earlier l j
  left_binary = word.left_operand (ap (λ (n : ℕ). is_operand (left_field (shape n))) e ∙ rw (shape-binary b))

  binary_of : (p : Bool) → form_of p t j ≡ form.plain p (bin b (formula_of (formulas t) l) (formula_of (formulas t) r))
  binary_of p = ap (form.plain p) (word.formula ∙ rw (e, shape-binary b))

-- and, or, U, W, R or M
operator : (p : Bool) {t : List ℕ} {j k l r : ℕ} → WordAt t j k l r → IsOperator k → Operator p (shape k)
operator p {k = k} w c = operator_by p (shape k) (rw (kind_of-shape k w.below) c)

pub left_operator : {t : List ℕ} {j k l r : ℕ} → WordAt t j k l r → IsOperator k → Earlier l j
left_operator w c = w.left_operand (operator true w c).left_operand

-- a and b are what the slot of word j has to hold in its two fields: with them its form can be stored
pub record Ready (p : Bool) (t : List ℕ) (j k : ℕ) (d e : List ℕ) (a b : ℕ) : Type 0 where
  pub inside : slot_of p j < length e
  pub small : a < 1048576
  pub right_small : b < 1048576
  pub long : length e ≡ length d
  pub formed : {f : List ℕ} {x y : ℕ} → x ≡ signed_kind p k → Stored e f (slot_of p j) (pack x a b) y → Formed p t j d f y

pub ready_at : {p : Bool} {t : List ℕ} {j k : ℕ} {d e f : List ℕ} {a b x y : ℕ} → f ≡ e → x ≡ a → y ≡ b → Ready p t j k d e a b → Ready p t j k d f x y
ready_at e a b r = rw (e, a, b) r

-- word j, read, for its form (true) or that of its denial (false), whose slot is empty
module _ {p : Bool} {t d : List ℕ} {j k l r : ℕ} (asked : Asked t d j) (word : WordAt t j k l r) (empty : get_or d (slot_of p j) 0 ≡ 0) where
  -- a constant or a letter
  leaf-formed : {e : List ℕ} {n x : ℕ} → k < 5 → n ≡ signed_kind p k → Stored d e (slot_of p j) (pack n 0 r) x → Formed p t j d e x
  unfolding signed_kind
  leaf-formed {e} {n} {x} h c q =
      let e : kind_of (shape k) ≡ k = kind_of-shape k word.below in
      let f = leaf_by p (shape k) r (formula_of (formulas t) l) (formula_of (formulas t) r) (omega (arith, word.positive)) (omega arith) word.right_fits word.right_blank in
      stored-form p j asked empty q (
      subst (λ (φ : Formula). Drafted (set d (slot_of p j) (pack n 0 r)) (form.plain p φ) (slot_of p j)) (sym word.formula) (f (rw (← c) (slot-set d (slot_of p j) (pack n 0 r) (slot-inside p asked))))
      )

  pub leaf-ready : k ≤ 4 → Ready p t j k d d 0 r
  leaf-ready h = record { inside = slot-inside p asked; small = omega arith; right_small = omega (arith, word.right_fits); long = refl; formed = leaf-formed (omega arith) }

  -- the denial's form is that of the operand
  pub not_formed : {e : List ℕ} {x : ℕ} → k ≡ 12 → Formed (not p) t r d e x → Formed p t j d e x
  unfolding form.plain
  not_formed h f =
      let b = right_earlier word (omega arith) in
      record {
        drafted = rw (unary_of neg word h p) f.drafted;
        below = omega (arith, f.below, b.below);
        inside = f.inside;
        long = f.long;
        filled = f.filled;
        kept = f.kept;
        later = λ i g. f.later i (omega (arith, b.below));
      }

  next_formed : {e f : List ℕ} {b x y : ℕ} → k ≡ 7 → Formed p t r d e b → x ≡ signed_kind p k → Stored e f (slot_of p j) (pack x 0 b) y → Formed p t j d f y
  unfolding form.plain signed_kind
  next_formed {e} {f} {b} {x} h g c q =
      let m = right_earlier word (omega arith) in
      let s = slot_bounds p j in
      let z : get_or e (slot_of p j) 0 ≡ 0 = g.later (slot_of p j) (omega (arith, m.below)) ∙ empty in
      let n : x ≡ unary_kind next = c ∙ rw (h, shape-unary next) in
      formed_then g (omega (arith, m.below)) (
      stored-form p j (asked_then asked g) z q (
      rw (unary_of next word h p) (
        b,
        omega (arith, g.below, m.below),
        drafted_kept e (slot_of p j) (pack x 0 b) z (form_of p t r) b g.drafted,
        rw (← n) (slot-set e (slot_of p j) (pack x 0 b) (slot-inside p (asked_then asked g))),
      )
      )
      )

  -- an operator over the forms of two words, of which word 0 may be the left one; the right one's comes first
  binary-formed : {q : Bool} {e f g : List ℕ} {a b m n x y : ℕ} (w : Binary) → form_of p t j ≡ bin w (form_of q t m) (form_of p t n) → m < j → n < j
      → Formed p t n d e b → Formed q t m e f a → x ≡ binary_kind w → Stored f g (slot_of p j) (pack x a b) y → Formed p t j d g y
  binary-formed {q} {e} {f} {g} {a} {b} {m} {n} {x} {y} w φ hm hn u v c k =
      let s = slot_bounds p j in
      let z : get_or f (slot_of p j) 0 ≡ 0 = v.later (slot_of p j) (omega arith) ∙ u.later (slot_of p j) (omega arith) ∙ empty in
      formed_then u (omega arith) (
      formed_then v (omega arith) (
      stored-form p j (asked_then (asked_then asked u) v) z k (
      rw φ (
        a,
        b,
        omega (arith, v.below),
        omega (arith, u.below),
        drafted_kept f (slot_of p j) (pack x a b) z (form_of q t m) a v.drafted,
        drafted_kept f (slot_of p j) (pack x a b) z (form_of p t n) b (v.kept (form_of p t n) b u.drafted),
        rw (← c) (slot-set f (slot_of p j) (pack x a b) (slot-inside p (asked_then (asked_then asked u) v))),
      )
      )
      )
      )

  -- what stands left of the right operand's form, by the word's kind: nothing at X
  pub next_ready : {e : List ℕ} {b : ℕ} → k ≡ 7 → Formed p t r d e b → Ready p t j k d e 0 b
  next_ready h u = record { inside = omega (arith, slot-inside p asked, u.long); small = omega arith; right_small = omega (arith, u.inside, asked.few); long = u.long; formed = next_formed h u }

  -- F a is true U a, and G a is false R a
  pub finally-ready : {e : List ℕ} {b : ℕ} → k ≡ 13 → Formed p t r d e b → Ready p t j k d e (slot_of (not p) 0) b
  unfolding form.plain signed_kind
  finally-ready h u =
      let m = right_earlier word (omega arith) in
      let f = constant-formed (not p) (asked_then asked u) in
      record {
        inside = omega (arith, slot-inside p asked, u.long);
        small = omega (arith, f.inside, asked.few, u.long);
        right_small = omega (arith, u.inside, asked.few);
        long = u.long;
        formed = λ c. binary-formed (form.signed p until) (unary_of finally word h p ∙ rw (constant-form p t).1) (omega (arith, m.below)) m.below u f (c ∙ rw (h, shape-unary finally));
      }

  pub globally-ready : {e : List ℕ} {b : ℕ} → k ≡ 14 → Formed p t r d e b → Ready p t j k d e (slot_of p 0) b
  unfolding form.plain signed_kind
  globally-ready h u =
      let m = right_earlier word (omega arith) in
      let f = constant-formed p (asked_then asked u) in
      record {
        inside = omega (arith, slot-inside p asked, u.long);
        small = omega (arith, f.inside, asked.few, u.long);
        right_small = omega (arith, u.inside, asked.few);
        long = u.long;
        formed = λ c. binary-formed (form.signed p release) (unary_of globally word h p ∙ rw (constant-form p t).0) (omega (arith, m.below)) m.below u f (c ∙ rw (h, shape-unary globally));
      }

  -- a implies b is (denial of a) or b
  pub implies-ready : {e f : List ℕ} {a b : ℕ} → k ≡ 15 → Formed p t r d e b → Formed (not p) t l e f a → Ready p t j k d f a b
  unfolding form.plain signed_kind
  implies-ready h u v = record {
    inside = omega (arith, slot-inside p asked, u.long, v.long);
    small = omega (arith, v.inside, asked.few, u.long);
    right_small = omega (arith, u.inside, asked.few);
    long = v.long ∙ u.long;
    formed = λ c. binary-formed (form.signed p disj) (binary_of implies word h p) (left_binary implies word h).below (right_earlier word (omega arith)).below u v (c ∙ rw (h, shape-binary implies));
  }

  -- and, or, U, W, R and M
  pub operator-ready : {e f : List ℕ} {a b : ℕ} → IsOperator k → Formed p t r d e b → Formed p t l e f a → Ready p t j k d f a b
  unfolding signed_kind
  operator-ready o u v =
      let w = operator p word o in
      record {
        inside = omega (arith, slot-inside p asked, u.long, v.long);
        small = omega (arith, v.inside, asked.few, u.long);
        right_small = omega (arith, u.inside, asked.few);
        long = v.long ∙ u.long;
        formed = λ c. binary-formed w.operator (ap (form.plain p) word.formula ∙ w.form r (formula_of (formulas t) l) (formula_of (formulas t) r)) (left_operator word o).below (right_earlier word o.above).below u v (c ∙ w.kinded);
      }
