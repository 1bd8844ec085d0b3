-- How the conversion of a word stands in a draft once those of the words before it do, by the word's kind.
use Prim.Native.Nat.{ℕ, ◌+◌, ◌*◌, ◌<◌, ◌≤◌}
use native.Mathlib.Nat.{eq-or-lt_of_le}
use native.Mathlib.Omega.{arith}
use mathlib.Core.Path.{◌≡◌, refl, sym, ap, ◌∙◌}
use mathlib.Core.Logic.{◌⊎◌, inl, inr}
use mathlib.Core.Bool.{true}
use mathlib.Core.List.{List}
use lib.ListN.{length, set, length-set}
use lib.Seq.{get_or-set_other}
use Rattle.logic.specs.Formula.{Formula, Binary, un, bin, next, conj, disj, until, weak, release, strong}
use Rattle.transforms.specs.Dialect.{dialect, dialect_op}
use Rattle.table.specs.Node.{shape, binary, binary_kind, right_field, kind_of}
use Rattle.table.specs.Checks.{is_operand}
use Rattle.table.proofs.Shapes.{shape-unary, shape-binary, kind_of-shape}
use Rattle.slots.specs.Slot.{pack}
use Rattle.drafts.specs.Drafted.{SlotIs, Drafted}
use Rattle.drafts.proofs.Drafts.{slot_below, drafted-set, slot-set}
use Rattle.source.specs.Source.{Earlier, WordAt}
use Rattle.dialect_slots.specs.Filling.{form_of, slot_of, Room, Filled, Next}
use Rattle.source.proofs.Words.{plain-kind}
use Rattle.dialect_slots.proofs.Shapes.{leaf_by, IsKept, kept_by}

-- the slots of a word are in the draft
pub own-inside : {t d : List ℕ} {j : ℕ} → Next t d j → slot_of j < length d
own-inside q = omega (arith, q.word.inside, q.room.slots)

-- an earlier word's conversion still stands once a slot of word j is stored
kept : {t d : List ℕ} {j : ℕ} (k s : ℕ) → Next t d j → 2 * j ≤ k → k < length d → (i : ℕ) → 0 < i → i < j → Drafted (set d k s) (form_of t i) (slot_of i)
kept {t} {d} k s q h l i p b = drafted-set d k s (form_of t i) (slot_of i) l (omega arith) (q.before i p b)

-- the slot before the word's own
pub next_stored : {t d : List ℕ} {j : ℕ} (s : ℕ) → Next t d j → Next t (set d (2 * j) s) j
next_stored {t} {d} {j} s q = record {
  room = record {
    accepted = q.room.accepted;
    slots = omega (arith, q.room.slots, length-set d (2 * j) s);
    few = omega (arith, q.room.few, length-set d (2 * j) s);
  };
  word = q.word;
  before = kept (2 * j) s q (omega arith) (omega (arith, own-inside q));
}

-- the word's own
stored : {t d : List ℕ} {j : ℕ} (s : ℕ) → Next t d j → Drafted (set d (slot_of j) s) (form_of t j) (slot_of j) → Filled t (set d (slot_of j) s) j
stored {t} {d} {j} s q g = record { form = λ i p h. go i p (eq-or-lt_of_le h) }
  where
    go : (i : ℕ) → 0 < i → (i ≡ j) ⊎ (i < j) → Drafted (set d (slot_of j) s) (form_of t i) (slot_of i)
    go i p (inl e) = rw e g
    go i p (inr b) = kept (slot_of j) s q (omega arith) (own-inside q) i p b

-- its kind is a plain one
pub plain_at : {t d : List ℕ} {j k l r : ℕ} → Next t d j → WordAt t j k l r → k < 12
plain_at {t} {d} {j} q word = omega (arith, word.kinded, plain-kind 16383 t q.room.accepted j q.word.positive q.word.inside)

-- with slot s as its own, the conversion of word j stands too; the draft was d, and is e with an inner word
pub record Ready (t d e : List ℕ) (j s : ℕ) : Type 0 where
  pub long : length e ≡ length d
  pub filled : Filled t (set e (slot_of j) s) j

-- word j, read, after the conversions of the words before it
module _ {t d : List ℕ} {j k l r : ℕ} (q : Next t d j) (word : WordAt t j k l r) where
  own-ready : {e : List ℕ} {s m : ℕ} → e ≡ d → s ≡ m → Drafted (set d (slot_of j) m) (form_of t j) (slot_of j) → Ready t d e j s
  own-ready {m = m} y z g = rw (y, z) (record { long = refl; filled = stored m q g })

  -- a constant or a letter
  pub leaf-ready : {e : List ℕ} {s : ℕ} → k < 5 → e ≡ d → s ≡ pack k 0 r → Ready t d e j s
  leaf-ready h y z =
      let e : kind_of (shape k) ≡ k = kind_of-shape k word.below in
      own-ready y z
      (rw word.formula
      (leaf_by (shape k) r _ _ (rw e word.positive) (rw e h) word.right_fits word.right_blank
      (rw e (slot-set d (slot_of j) (pack k 0 r) (own-inside q)))))

  right_earlier : k ≡ 7 → Earlier r j
  right_earlier e = word.right_operand (ap (λ (n : ℕ). is_operand (right_field (shape n))) e ∙ rw (shape-unary next))

  pub next_ready : {e : List ℕ} {s : ℕ} → k ≡ 7 → e ≡ d → s ≡ pack 7 0 (slot_of r) → Ready t d e j s
  unfolding dialect
  next_ready e y z =
      let m = right_earlier e in
      let form : form_of t j ≡ un next (form_of t r) = ap dialect word.formula ∙ rw (e, shape-unary next) in
      own-ready y z
      (rw form (
        slot_of r,
        omega (arith, m.below),
        kept (slot_of j) _ q (omega arith) (own-inside q) r m.positive m.below,
        slot-set d (slot_of j) _ (own-inside q),
      ))

  module _ (o : Binary) (e : shape k ≡ binary o) where
    pub left_binary : Earlier l j
    left_binary = word.left_operand (rw e)

    pub right_binary : Earlier r j
    right_binary = word.right_operand (rw e)

    binary-form : form_of t j ≡ dialect_op o (form_of t l) (form_of t r)
    unfolding dialect
    binary-form = ap dialect word.formula ∙ rw e

  -- and, or, U and R
  pub kept_ready : {e : List ℕ} {s : ℕ} → IsKept k → e ≡ d → s ≡ pack k (slot_of l) (slot_of r) → Ready t d e j s
  kept_ready c y z =
      let kinds : kind_of (shape k) ≡ k = kind_of-shape k (omega (arith, c.plain)) in
      let o = kept_by (shape k) (rw kinds c) in
      let a = left_binary o.operator o.is in
      let b = right_binary o.operator o.is in
      let s : ℕ = pack k (slot_of l) (slot_of r) in
      let kind : k ≡ binary_kind o.operator = sym kinds ∙ ap kind_of o.is in
      own-ready y z
      (rw (binary-form o.operator o.is ∙ o.form (form_of t l) (form_of t r)) (
        slot_of l,
        slot_of r,
        omega (arith, a.below),
        omega (arith, b.below),
        kept (slot_of j) s q (omega arith) (own-inside q) l a.positive a.below,
        kept (slot_of j) s q (omega arith) (own-inside q) r b.positive b.below,
        rw (← kind) (slot-set d (slot_of j) s (own-inside q)),
      ))

  -- W and M: the inner word over both operands, then the word over the right one and the inner word
  fixpoint-ready : {e : List ℕ} {m s : ℕ} (o inner outer : Binary) → ((a b : Formula) → dialect_op o a b ≡ bin outer b (bin inner a b)) → k ≡ binary_kind o
      → m ≡ pack (binary_kind inner) (slot_of l) (slot_of r) → e ≡ set d (2 * j) m → s ≡ pack (binary_kind outer) (slot_of r) (2 * j) → Ready t d e j s
  fixpoint-ready o inner outer f e x y z =
      let is : shape k ≡ binary o = ap shape e ∙ shape-binary o in
      let a = left_binary o is in
      let b = right_binary o is in
      let s : ℕ = pack (binary_kind inner) (slot_of l) (slot_of r) in
      let m : ℕ = pack (binary_kind outer) (slot_of r) (2 * j) in
      let p : Next t (set d (2 * j) s) j = next_stored s q in
      let there : 2 * j < length d = omega (arith, own-inside q) in
      let above : SlotIs (set (set d (2 * j) s) (slot_of j) m) (2 * j) s =
      slot_below (set d (2 * j) s) _ (slot_of j) (omega (arith, own-inside p, length-set (set d (2 * j) s) (slot_of j) m)) (λ i h. get_or-set_other (set d (2 * j) s) (slot_of j) i m 0 (omega arith)) (omega arith) (slot-set d (2 * j) s there) in
      let right = kept (slot_of j) m p (omega arith) (own-inside p) r b.positive b.below in
      rw (y, x, z) (record {
        long = length-set d (2 * j) s;
        filled = stored m p (rw (binary-form o is ∙ f (form_of t l) (form_of t r)) (
          slot_of r,
          2 * j,
          omega (arith, b.below),
          omega arith,
          right,
          (
            slot_of l,
            slot_of r,
            omega (arith, a.below),
            omega (arith, b.below),
            kept (slot_of j) m p (omega arith) (own-inside p) l a.positive a.below,
            right,
            above,
          ),
          slot-set (set d (2 * j) s) (slot_of j) m (own-inside p),
        ));
      })

  -- a W b is b R (a or b), and a M b is b U (a and b)
  pub weak-ready : {e : List ℕ} {m s : ℕ} → k ≡ 9 → m ≡ pack 6 (slot_of l) (slot_of r) → e ≡ set d (2 * j) m → s ≡ pack 10 (slot_of r) (2 * j) → Ready t d e j s
  weak-ready = fixpoint-ready weak disj release (λ a b. refl)

  pub strong-ready : {e : List ℕ} {m s : ℕ} → k ≡ 11 → m ≡ pack 5 (slot_of l) (slot_of r) → e ≡ set d (2 * j) m → s ≡ pack 8 (slot_of r) (2 * j) → Ready t d e j s
  strong-ready = fixpoint-ready strong conj until (λ a b. refl)

-- before the first word
pub none_filled : (t d : List ℕ) → Filled t d 0
none_filled t d = record { form = λ j p h. absurd (omega arith) }

-- after j words comes the next one
pub next_word : {t d e : List ℕ} {j : ℕ} → Room t d → length e ≡ length d → Filled t e j → j < length t → Next t e (j + 1)
next_word {t} {d} {e} {j} q h f l = record {
  room = record { accepted = q.accepted; slots = omega (arith, q.slots); few = omega (arith, q.few) };
  word = record { plain = true; limit = 16383; accepted = q.accepted; positive = omega arith; inside = omega arith };
  before = λ i p b. f.form i p (omega arith);
}
