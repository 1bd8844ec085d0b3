-- A draft folded slot by slot: a slot over folded operands stands for the folded formula.
use Prim.Native.Nat.{ℕ, ◌+◌, ◌^◌, ◌≤◌, ◌<◌}
use native.Mathlib.Nat.{eq-or-lt_of_le}
use native.Mathlib.Omega.{arith}
use mathlib.Core.Path.{◌≡◌, refl, ap₂, ◌∙◌, subst}
use mathlib.Core.Bool.{Bool, cond}
use mathlib.Core.Logic.{◌⊎◌, inl, inr}
use mathlib.Core.List.{List}
use lib.ListN.{length, get_or, set, length-set}
use Rattle.logic.specs.Formula.{Formula, Unary, Binary, const, lit, un, bin, next, neg, finally, globally}
use Rattle.transforms.specs.Folding.{Fold, left, right, stands, on_left, on_right, on_operand, by_constant, or_else, pick, fold_unary, fold_binary, fold}
use Rattle.table.specs.Node.{Shape, none, constant, letter, unary, binary, shape, unary_kind, binary_kind}
use Rattle.table.proofs.Shapes.{shape-unary, shape-binary, shape-constant, shape-letter}
use Rattle.slots.specs.Slot as slot
use Rattle.slots.proofs.Fields.{kind-pack, left_pack, right_pack}
use Rattle.drafts.specs.Drafted.{Drafted}
use Rattle.drafts.proofs.Drafts.{drafted-set, slot-set}
use Rattle.fold_rules.specs.Rules.{left_rule, right_rule, constantly}
use Rattle.folding.specs.Folded.{folded_over, folded_slot, Folded}
use Rattle.folding.proofs.Roots.{slot-constantly}

-- slot n is set to a slot that stands for a formula already
pub drafted-copy : (e : List ℕ) (n : ℕ) → n < length e → (φ : Formula) (i : ℕ) → i < n → Drafted e φ i → Drafted (set e n (get_or e i 0)) φ n
drafted-copy e n h (const b) i l r = record { within = (slot-set e n (get_or e i 0) h).within; is = (slot-set e n (get_or e i 0) h).is ∙ r.is }
drafted-copy e n h (lit b p) i l r = (r.0, record { within = (slot-set e n (get_or e i 0) h).within; is = (slot-set e n (get_or e i 0) h).is ∙ r.1.is })
drafted-copy e n h (un o a) i l r = (
  r.0,
  omega (arith, r.1),
  drafted-set e n (get_or e i 0) a r.0 h (omega (arith, r.1)) r.2,
  record { within = (slot-set e n (get_or e i 0) h).within; is = (slot-set e n (get_or e i 0) h).is ∙ r.3.is },
)
drafted-copy e n h (bin o a b) i l r = (
  r.0,
  r.1,
  omega (arith, r.2),
  omega (arith, r.3),
  drafted-set e n (get_or e i 0) a r.0 h (omega (arith, r.2)) r.4,
  drafted-set e n (get_or e i 0) b r.1 h (omega (arith, r.3)) r.5,
  record { within = (slot-set e n (get_or e i 0) h).within; is = (slot-set e n (get_or e i 0) h).is ∙ r.6.is },
)

-- what makes nothing of a word, whatever the constant, makes nothing of it at all
nothing : (f : Bool → Fold) → ((c : Bool) → f c ≡ stands) → (s : Shape) → constantly f s ≡ stands
nothing f g none = refl
nothing f g (constant c) = g c
nothing f g (letter b) = refl
nothing f g (unary o) = refl
nothing f g (binary o) = refl

-- a word with one operand has it on the right
never_left : (o : Unary) (a : Formula) → by_constant (on_operand o) a ≡ left → ⊥
never_left next (const c) e = let z : ◌≡◌ {A = ℕ} 0 1 = cc in omega arith
never_left neg (const c) e = let z : ◌≡◌ {A = ℕ} 0 1 = cc in omega arith
never_left finally (const c) e = let z : ◌≡◌ {A = ℕ} 0 1 = cc in omega arith
never_left globally (const c) e = let z : ◌≡◌ {A = ℕ} 0 1 = cc in omega arith
never_left o (lit b p) e = let z : ◌≡◌ {A = ℕ} 0 1 = cc in omega arith
never_left o (un p a) e = let z : ◌≡◌ {A = ℕ} 0 1 = cc in omega arith
never_left o (bin p a b) e = let z : ◌≡◌ {A = ℕ} 0 1 = cc in omega arith

module _ (e : List ℕ) (n : ℕ) (h : n < length e) (narrow : n ≤ 2 ^ 20) where
  -- a word over operands at the slots l and m, by what they make of it
  picked : (f : Fold) (a b w : Formula) (l m s : ℕ) → (f ≡ left → (l < n) × Drafted e a l) → m < n → Drafted e b m → Drafted (set e n s) w n
      → Drafted (set e n (pick f (get_or e l 0) (get_or e m 0) s)) (pick f a b w) n
  picked left a b w l m s p hm q r = drafted-copy e n h a l (p refl).0 (p refl).1
  picked right a b w l m s p hm q r = drafted-copy e n h b m hm q
  picked stands a b w l m s p hm q r = r

  over : (s l m : ℕ) → slot.left s ≡ l → slot.right s ≡ m → folded_slot s e ≡ folded_over s (get_or e l 0) (get_or e m 0)
  unfolding folded_slot
  over s l m p q = ap₂ (λ (x y : ℕ). folded_over s (get_or e x 0) (get_or e y 0)) p q

  -- a word with no operand stands
  leaf : (s : ℕ) → ((c : Bool) → left_rule (shape (slot.kind s)) c ≡ stands) → ((c : Bool) → right_rule (shape (slot.kind s)) c ≡ stands) → folded_slot s e ≡ s
  unfolding folded_slot
  leaf s p q = rw (nothing (left_rule (shape (slot.kind s))) p (shape (slot.kind (get_or e (slot.left s) 0))), nothing (right_rule (shape (slot.kind s))) q (shape (slot.kind (get_or e (slot.right s) 0))))

  pub folded_constant : (b : Bool) → Drafted (set e n (folded_slot (slot.pack (cond b 2 1) 0 0) e)) (const b) n
  folded_constant b =
      let s = slot.pack (cond b 2 1) 0 0 in
      let k = kind-pack (cond b 2 1) 0 0 (omega arith) (omega arith) in
      rw (leaf s (λ c. rw (k, shape-constant b)) (λ c. rw (k, shape-constant b))) (slot-set e n s h)

  pub folded_letter : (b : Bool) (p : ℕ) → p < 16384 → Drafted (set e n (folded_slot (slot.pack (cond b 3 4) 0 p) e)) (lit b p) n
  folded_letter b p f =
      let s = slot.pack (cond b 3 4) 0 p in
      let k = kind-pack (cond b 3 4) 0 p (omega arith) (omega arith) in
      (f, rw (leaf s (λ c. rw (k, shape-letter b)) (λ c. rw (k, shape-letter b))) (slot-set e n s h))

  pub folded_unary : (o : Unary) (a : Formula) (m : ℕ) → m < n → Drafted e a m → Drafted (set e n (folded_slot (slot.pack (unary_kind o) 0 m) e)) (fold_unary o a) n
  unfolding fold_unary
  folded_unary o a m hm q =
      let s = slot.pack (unary_kind o) 0 m in
      rw (
        over s 0 m (left_pack (unary_kind o) 0 m (omega arith) (omega arith)) (right_pack (unary_kind o) 0 m (omega arith)),
        kind-pack (unary_kind o) 0 m (omega arith) (omega arith),
        shape-unary o,
        nothing (left_rule (unary o)) (λ c. refl) (shape (slot.kind (get_or e 0 0))),
        slot-constantly e m (omega arith) (right_rule (unary o)) a q,
      )
      (picked (by_constant (on_operand o) a) a a (un o a) 0 m s (λ z. absurd (never_left o a z)) hm q
      (m, hm, drafted-set e n s a m h hm q, slot-set e n s h))

  pub folded_binary : (o : Binary) (a b : Formula) (l m : ℕ) → l < n → m < n → Drafted e a l → Drafted e b m
      → Drafted (set e n (folded_slot (slot.pack (binary_kind o) l m) e)) (fold_binary o a b) n
  unfolding fold_binary
  folded_binary o a b l m hl hm p q =
      let s = slot.pack (binary_kind o) l m in
      rw (
        over s l m (left_pack (binary_kind o) l m (omega arith) (omega arith)) (right_pack (binary_kind o) l m (omega arith)),
        kind-pack (binary_kind o) l m (omega arith) (omega arith),
        shape-binary o,
        slot-constantly e l (omega arith) (left_rule (binary o)) a p,
        slot-constantly e m (omega arith) (right_rule (binary o)) b q,
      )
      (picked (or_else (by_constant (on_left o) a) (by_constant (on_right o) b)) a b (bin o a b) l m s (λ z. (hl, p)) hm q
      (l, m, hl, hm, drafted-set e n s a l h hl p, drafted-set e n s b m h hm q, slot-set e n s h))

-- one slot more
module _ {d e : List ℕ} {n : ℕ} (g : Folded d e n) (h : n < length e) (narrow : n < 2 ^ 20) where
  abbrev next_slot : ℕ
  next_slot = folded_slot (get_or d n 0) e

  drafted_next : (φ : Formula) → Drafted d φ n → Drafted (set e n next_slot) (fold φ) n
  unfolding fold
  drafted_next (const b) r = rw r.is (folded_constant e n h (omega arith) b)
  drafted_next (lit b p) r = rw r.1.is (folded_letter e n h (omega arith) b p r.0)
  drafted_next (un o a) r = rw r.3.is (folded_unary e n h (omega arith) o (fold a) r.0 r.1 (g.slots a r.0 r.1 r.2))
  drafted_next (bin o a b) r =
      rw r.6.is
      (folded_binary e n h (omega arith) o (fold a) (fold b) r.0 r.1 r.2 r.3 (g.slots a r.0 r.2 r.4) (g.slots b r.1 r.3 r.5))

  pub folded_next : Folded d (set e n next_slot) (n + 1)
  folded_next = record { long = omega (arith, length-set e n next_slot); slots = λ φ i l r. go φ i r (eq-or-lt_of_le (omega arith)) }
    where
      go : (φ : Formula) (i : ℕ) → Drafted d φ i → (i ≡ n) ⊎ (i < n) → Drafted (set e n next_slot) (fold φ) i
      go φ i r (inl q) = rw q (drafted_next φ (subst (Drafted d φ) q r))
      go φ i r (inr q) = drafted-set e n next_slot (fold φ) i h q (g.slots φ i q r)

pub folded_none : (d e : List ℕ) → Folded d e 0
folded_none d e = record { long = omega arith; slots = λ φ i l r. absurd (omega arith) }
