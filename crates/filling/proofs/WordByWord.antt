-- The words of an accepted table, whose slots are filled one after the other.
use Prim.Native.Nat.{ℕ, zero, suc, ◌+◌, ◌*◌, ◌≤◌, ◌<◌}
use native.Mathlib.Omega.{arith}
use native.Mathlib.Nat.{eq-or-lt_of_le, le_of_suc-le-suc}
use mathlib.Core.Path.{◌≡◌, ap, ◌∙◌, subst}
use mathlib.Core.Logic.{◌⊎◌, inl, inr}
use mathlib.Core.Bool.{Bool, true, false}
use mathlib.Core.List.{List}
use lib.ListN.{length, get_or, set, length-set}
use lib.Seq.{get_or-set_same, get_or-set_other}
use Rattle.logic.specs.Formula.{Formula, bin, disj, G}
use Rattle.transforms.specs.Rewriting.{steady, opening}
use Rattle.transforms.specs.NormalForm.{is_least, is_greatest, member, least_of, greatest_of}
use Rattle.table.specs.Node.{Shape, shape, kind, left, right, left_field, right_field, binary_kind}
use Rattle.table.specs.Checks.{is_operand}
use Rattle.slots.specs.Slot.{pack}
use Rattle.table.specs.Table.{formulas, formula_of}
use Rattle.table.specs.Steps.{fixpoints}
use Rattle.table.proofs.Accepted.{WellFormed, accepted-formula}
use Rattle.drafts.specs.Drafted.{Drafted}
use Rattle.form_places.specs.declared.Rewriting.{Rewriting}
use Rattle.form_places.specs.declared.Rewriting.TheVariants.{Steady, Recurring, Opening}
use Rattle.fixpoint_kinds.specs.declared.Fixpoint.TheVariants.{Least, Greatest}
use Rattle.form_places.specs.Places.{place, globally_slot}
use Rattle.rewriting.specs.Slots.{by, word_by}
use Rattle.word_slots.specs.WordSlots.{Slotted, WordFilled}
use Rattle.conjuncts.specs.Filled.{form_of, Filled}
use Rattle.conjuncts.proofs.Forms.{slot_at}
use Rattle.choosing.specs.Filled.{Laid, Chosen}
use Rattle.logic.specs.Bit.{bit}
use Rattle.fixpoints.specs.Positions.{bit_of}
use Rattle.form_places.proofs.Places.{place-fits, place_before}
use Rattle.fixpoints.proofs.UntilLike.{member-fixpoint}
use Rattle.conjuncts.proofs.Members.{picked-word}
use Rattle.filling.proofs.Drafting.{Operands, Always, steady-drafted, recurring-drafted, opening-drafted, always-drafted}
use Rattle.choosing.proofs.Choosing.{laid-later}

pub laid_none : (t d : List ℕ) → 1 < length d → Laid t (set (set d 0 (pack 1 0 0)) 1 (pack 2 0 0)) 0
laid_none t d h = record {
  false_slot = slot_at (simp length-set (omega arith)) (get_or-set_other (set d 0 (pack 1 0 0)) 1 0 (pack 2 0 0) 0 (omega arith) ∙ get_or-set_same d 0 (pack 1 0 0) 0 (omega arith));
  true_slot = slot_at (simp length-set (omega arith)) (get_or-set_same (set d 0 (pack 1 0 0)) 1 (pack 2 0 0) 0 (simp length-set (omega arith)));
  slots = λ i p. absurd (omega arith);
}

-- one word more
pub laid_more : {t d e : List ℕ} {i : ℕ} → Laid t d i → WordFilled (get_or t i 0) (suc i) d e → place Opening (suc i) < length d → Laid t e (suc i)
laid_more {t} {d} {e} {i} q w long = record {
  false_slot = before.false_slot;
  true_slot = before.true_slot;
  slots = λ k l. go k (eq-or-lt_of_le (le_of_suc-le-suc l));
}
  where
    before : Laid t e i
    before = laid-later e (place Steady (suc i)) q (omega arith) (omega (arith, w.long)) w.before

    go : (k : ℕ) → (k ≡ i) ⊎ (k < i) → (chosen : Bool) × Slotted (get_or t k 0) (suc k) chosen e
    go k (inl z) = (false, rw z w.slots)
    go k (inr l) = before.slots k l

module _ {limit : ℕ} {t : List ℕ} (f : WellFormed true limit t) {c i : ℕ} (h : i < length t) {d : List ℕ} (q : Filled t c d i)
    (w : Slotted (get_or t i 0) (suc i) (bit c (bit_of t i)) d) (long : place Opening (suc i) < length d) where
  M : Formula → Bool
  M = member (least_of (fixpoints t) c)

  N : Formula → Bool
  N = member (greatest_of (fixpoints t) c)

  a : Formula
  a = formula_of (formulas t) (left (get_or t i 0))

  b : Formula
  b = formula_of (formulas t) (right (get_or t i 0))

  earlier : (m : Rewriting) (j : ℕ) → 0 < j → j < suc i → (place m j < place Steady (suc i)) × Drafted d (form_of m t c j) (place m j)
  earlier m j p l = (place_before m j (suc i) l, q.form m j p (omega arith))

  operands : (k : ℕ) → place Steady (suc i) ≤ k → Operands d M N (shape (kind (get_or t i 0))) k (right (get_or t i 0)) (left (get_or t i 0)) (right (get_or t i 0)) a b
  unfolding M N a b
  operands k l = record {
    left_form = λ o m. let z = (f.word i h).operand_left o in let y = earlier m (left (get_or t i 0)) z.0 z.1 in (omega (arith, y.0), y.1);
    right_form = λ o m. let z = (f.word i h).operand_right o in let y = earlier m (right (get_or t i 0)) z.0 z.1 in (omega (arith, y.0), y.1);
    letter_small = λ o. omega (arith, (f.word i h).letter o);
  }

  inside : (m : Rewriting) → place m (suc i) < length d
  inside m = place-fits m (suc i) (length d) long

  formula : formula_of (formulas t) (suc i) ≡ word_by (get_or t i 0) a b
  unfolding formula_of a b
  formula = accepted-formula f i h

  in_M : is_least (word_by (get_or t i 0) a b) ≡ true → M (word_by (get_or t i 0) a b) ≡ bit c (bit_of t i)
  unfolding formula_of M least_of
  in_M = subst (λ (φ : Formula). is_least φ ≡ true → M φ ≡ bit c (bit_of t i)) formula (λ p. member-fixpoint f i h is_least c p (picked-word f i h Least p))

  in_N : is_greatest (word_by (get_or t i 0) a b) ≡ true → N (word_by (get_or t i 0) a b) ≡ bit c (bit_of t i)
  unfolding formula_of N greatest_of
  in_N = subst (λ (φ : Formula). is_greatest φ ≡ true → N φ ≡ bit c (bit_of t i)) formula (λ p. member-fixpoint f i h is_greatest c p (picked-word f i h Greatest p))

  or_always : (φ ψ : Formula) (x y : ℕ) → get_or d (5 * suc i + 2) 0 ≡ globally_slot x → get_or d (5 * suc i + 3) 0 ≡ pack (binary_kind disj) y (5 * suc i + 2)
      → (y < place Steady (suc i)) × Drafted d φ y → (x < place Steady (suc i)) × Drafted d ψ x → Drafted d (bin disj φ (G ψ)) (5 * suc i + 3)
  or_always φ ψ x y g o m n =
      always-drafted φ ψ (5 * suc i + 2) (5 * suc i + 3) x y q.false_slot
      (slot_at (omega arith) g) (slot_at (omega arith) o)
      (omega arith) (omega (arith, n.0)) (omega (arith, m.0)) (omega arith) m.1 n.1

  always : Always d M (shape (kind (get_or t i 0))) (place Opening (suc i)) (5 * suc i + 3) (left (get_or t i 0)) (right (get_or t i 0)) a b
  always = record {
    of_weak = λ s.
        let l = (operands (place Steady (suc i)) (omega arith)).left_form (ap (λ (x : Shape). is_operand (left_field x)) s) Steady in
        let r = (operands (place Steady (suc i)) (omega arith)).right_form (ap (λ (x : Shape). is_operand (right_field x)) s) Opening in (
          omega arith,
          or_always (opening M b) (steady M a) (place Steady (left (get_or t i 0))) (place Opening (right (get_or t i 0))) (w.always_slot.of_weak s) (w.either_slot.of_weak s) r l,
        );
    of_release = λ s.
        let l = (operands (place Steady (suc i)) (omega arith)).left_form (ap (λ (x : Shape). is_operand (left_field x)) s) Opening in
        let r = (operands (place Steady (suc i)) (omega arith)).right_form (ap (λ (x : Shape). is_operand (right_field x)) s) Steady in (
          omega arith,
          or_always (opening M a) (steady M b) (place Steady (right (get_or t i 0))) (place Opening (left (get_or t i 0))) (w.always_slot.of_release s) (w.either_slot.of_release s) l r,
        );
  }

  new : (m : Rewriting) → Drafted d (by m M N (word_by (get_or t i 0) a b)) (place m (suc i))
  new Steady = steady-drafted (shape (kind (get_or t i 0))) (operands (place Steady (suc i)) (omega arith)) (slot_at (inside Steady) (w.steady_slot.is M N a b in_M in_N))
  new Recurring = recurring-drafted (shape (kind (get_or t i 0))) (operands (place Recurring (suc i)) (omega arith)) (slot_at (inside Recurring) (w.recurring_slot.is M N a b in_M in_N))
  new Opening = opening-drafted (shape (kind (get_or t i 0))) (operands (place Opening (suc i)) (omega arith)) always (slot_at (inside Opening) (w.opening_slot.is M a b))

  filled_more : Filled t c d (suc i)
  unfolding M N
  filled_more = record {
    false_slot = q.false_slot;
    true_slot = q.true_slot;
    form = λ m j p l. form m j p (eq-or-lt_of_le l);
  }
    where
      form : (m : Rewriting) (j : ℕ) → 0 < j → (j ≡ suc i) ⊎ (j < suc i) → Drafted d (form_of m t c j) (place m j)
      form m j p (inl z) = rw (z, formula) (new m)
      form m j p (inr l) = (earlier m j p l).1

-- slots that are those of a choice stand for its forms
pub chosen-filled : {limit : ℕ} {t : List ℕ} → WellFormed true limit t → {c : ℕ} {d : List ℕ} → Chosen t c d (length t) → place Opening (length t) < length d
    → (n : ℕ) → n ≤ length t → Filled t c d n
chosen-filled f q long zero h = record { false_slot = q.laid.false_slot; true_slot = q.laid.true_slot; form = λ m j p l. absurd (omega arith) }
chosen-filled f q long (suc n) h = filled_more f h (chosen-filled f q long n (omega arith)) (q.slots n h) (omega arith)
