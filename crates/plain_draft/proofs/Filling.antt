-- Filling the slots of a plain form's draft: what stands in it stays, and what a call leaves is what the next one asks.
use Prim.Native.Nat.{ℕ, ◌<◌, ◌≤◌}
use native.Mathlib.Omega.{arith}
use native.Mathlib.Decide.{ℕ_discrete}
use mathlib.Core.Path.{◌≡◌, refl, ap, ◌∙◌}
use mathlib.Core.Bool.{Bool, true, false, not}
use mathlib.Core.List.{List}
use lib.ListN.{length, get_or, set, length-set}
use lib.Seq.{get_or-set_other}
use lib.Dec.{T}
use Rattle.logic.specs.Formula.{Formula, const, lit, un, bin}
use Rattle.logic.specs.NegationNormalForm as form
use Rattle.table.specs.Node.{Shape, constant, letter, unary, binary, kind_of}
use Rattle.table.specs.Table.{formula_of}
use Rattle.slots.specs.Slot.{pack, Stored}
use Rattle.drafts.specs.Drafted.{SlotIs, Drafted}
use Rattle.source.specs.Source.{Earlier}
use Rattle.plain_laws.specs.Forms.{form_of, slot_of}
use Rattle.plain_laws.proofs.Slots.{slot_same, slot_bounds}
use Rattle.plain_draft.specs.Forming.{Filled, Asked, Formed}
use Rattle.plain_draft.proofs.Shapes.{is_word, kind-positive}

-- the slot of a word is not empty
word-positive : (s : Shape) (l r : ℕ) → T (is_word s) → 0 < pack (kind_of s) l r
unfolding pack
word-positive s l r h = omega (arith, kind-positive s h)

-- to fill an empty slot changes nothing that stands
module _ (d : List ℕ) (k s : ℕ) (empty : get_or d k 0 ≡ 0) where
  slot_kept : {i x : ℕ} → 0 < x → SlotIs d i x → SlotIs (set d k s) i x
  slot_kept {i} h q = record {
    within = omega (arith, q.within, length-set d k s);
    is = get_or-set_other d k i s 0 (λ e. omega (arith, q.is, ap (λ (x : ℕ). get_or d x 0) e)) ∙ q.is;
  }

  pub drafted_kept : (φ : Formula) (i : ℕ) → Drafted d φ i → Drafted (set d k s) φ i
  drafted_kept (const b) i r = slot_kept (word-positive (constant b) 0 0 tt) r
  drafted_kept (lit b p) i r = (r.0, slot_kept (word-positive (letter b) 0 p tt) r.1)
  drafted_kept (un o a) i r = (r.0, r.1, drafted_kept a r.0 r.2, slot_kept (word-positive (unary o) 0 r.0 tt) r.3)
  drafted_kept (bin o a b) i r = (
    r.0,
    r.1,
    r.2,
    r.3,
    drafted_kept a r.0 r.4,
    drafted_kept b r.1 r.5,
    slot_kept (word-positive (binary o) r.0 r.1 tt) r.6,
  )

  filled_more : {t : List ℕ} (p : Bool) (j : ℕ) → k ≡ slot_of p j → Filled t d → Drafted (set d k s) (form_of p t j) (slot_of p j) → Filled t (set d k s)
  filled_more {t} p j e f g = record { constant = λ q. drafted_kept (form_of q t 0) (slot_of q 0) (f.constant q); form = λ q i n. go q i n (ℕ_discrete (slot_of q i) k) }
    where
      go : (q : Bool) (i : ℕ) → (get_or (set d k s) (slot_of q i) 0 ≡ 0 → ⊥) → Dec (slot_of q i ≡ k) → Drafted (set d k s) (form_of q t i) (slot_of q i)
      go q i n (yes h) =
          let x = slot_same q p i j (h ∙ e) in
          rw (x.0, x.1) g
      go q i n (no h) = drafted_kept (form_of q t i) (slot_of q i) (f.form q i (λ z. n (get_or-set_other d k (slot_of q i) s 0 h ∙ z)))

-- every slot is in the draft
pub slot-inside : {t d : List ℕ} {j : ℕ} (p : Bool) → Asked t d j → slot_of p j < length d
slot-inside {j = j} p q = omega (arith, (slot_bounds p j).1, q.word.inside, q.slots)

-- the form of a word, stored at its own slot
pub stored-form : {t d e : List ℕ} {s x : ℕ} (p : Bool) (j : ℕ) → Asked t d j → get_or d (slot_of p j) 0 ≡ 0 → Stored d e (slot_of p j) s x
    → Drafted (set d (slot_of p j) s) (form_of p t j) (slot_of p j) → Formed p t j d e x
stored-form {t} {d} {e} {s} {x} p j f z q g = rw (q.set, q.answer) (record {
  drafted = g;
  below = (slot_bounds p j).1;
  inside = slot-inside p f;
  long = length-set d (slot_of p j) s;
  filled = filled_more d (slot_of p j) s z p j refl f.filled g;
  kept = drafted_kept d (slot_of p j) s z;
  later = λ i h. get_or-set_other d (slot_of p j) i s 0 (λ w. omega (arith, (slot_bounds p j).1));
})

-- a form after that of an earlier word
pub formed_then : {p q : Bool} {t d e f : List ℕ} {i j a x : ℕ} → Formed q t i d e a → i ≤ j → Formed p t j e f x → Formed p t j d f x
formed_then g h k = record {
  drafted = k.drafted;
  below = k.below;
  inside = omega (arith, k.inside, g.long);
  long = k.long ∙ g.long;
  filled = k.filled;
  kept = λ φ n w. k.kept φ n (g.kept φ n w);
  later = λ n w. k.later n w ∙ g.later n (omega arith);
}

-- what a call for an operand is asked with, the word's number falling
pub earlier-falls : {i j m : ℕ} → Earlier i j → j ≡ m → i < m
earlier-falls h e = omega (arith, h.below)

pub asked-earlier : {t d : List ℕ} {i j : ℕ} → Asked t d j → Earlier i j → Asked t d i
asked-earlier q h = record {
  word = record { plain = q.word.plain; limit = q.word.limit; accepted = q.word.accepted; positive = h.positive; inside = omega (arith, h.below, q.word.inside) };
  slots = q.slots;
  few = q.few;
  filled = q.filled;
}

pub asked_then : {p : Bool} {t d e : List ℕ} {i j x : ℕ} → Asked t d j → Formed p t i d e x → Asked t e j
asked_then q f = record { word = q.word; slots = omega (arith, q.slots, f.long); few = omega (arith, q.few, f.long); filled = f.filled }

pub asked_after : {p : Bool} {t d e : List ℕ} {i j m x : ℕ} → Formed p t m d e x → Asked t d j → Earlier i j → Asked t e i
asked_after f q h = asked-earlier (asked_then q f) h

-- a constant is a form of word 0
pub constant-form : (p : Bool) (t : List ℕ) → (form_of p t 0 ≡ const (not p)) × (form_of (not p) t 0 ≡ const p)
unfolding form.plain formula_of
constant-form true t = (refl, refl)
constant-form false t = (refl, refl)

pub constant-formed : {t d : List ℕ} {j : ℕ} (p : Bool) → Asked t d j → Formed p t 0 d d (slot_of p 0)
constant-formed p f = record {
  drafted = f.filled.constant p;
  below = (slot_bounds p 0).1;
  inside = omega (arith, (slot_bounds p 0).1, f.slots);
  long = refl;
  filled = f.filled;
  kept = λ φ i h. h;
  later = λ i h. refl;
}
