-- The words of an accepted table, whose slots are chosen one after the other.
use Prim.Native.Nat.{ℕ, suc, ◌+◌, ◌*◌, ◌^◌, ◌≤◌, ◌<◌}
use native.Mathlib.Omega.{arith}
use native.Mathlib.Nat.{eq-or-lt_of_le, le_of_suc-le-suc}
use mathlib.Core.Path.{◌≡◌, refl, ◌∙◌}
use mathlib.Core.Logic.{◌⊎◌, inl, inr}
use mathlib.Core.Bool.{Bool, true, false}
use mathlib.Core.List.{List}
use lib.ListN.{length, get_or}
use lib.Dec.{eqb}
use borrow.Author.Tests.{eqb-true, eqb-false}
use Rattle.table.specs.Node.{Shape, none, constant, letter, unary, binary, shape, kind, left, right, left_field, right_field}
use Rattle.table.specs.Checks.{is_blank, is_operand, is_proposition}
use Rattle.table.specs.StepChecks.{is_fixpoint_word}
use Rattle.table.proofs.Accepted.{WellFormed}
use Rattle.drafts.specs.Drafted.{SlotIs}
use Rattle.drafts.proofs.Drafts.{slot_below}
use Rattle.form_places.specs.declared.Rewriting.{Rewriting}
use Rattle.form_places.specs.declared.Rewriting.TheVariants.{Steady, Recurring, Opening}
use Rattle.fixpoint_kinds.specs.declared.Fixpoint.TheVariants.{Least, Greatest}
use Rattle.form_places.specs.Places.{place}
use Rattle.rewriting.specs.Slots.{Plain}
use Rattle.chosen_forms.specs.Rewritten.{Rewritten}
use Rattle.word_slots.specs.WordSlots.{Slotted, WordChosen}
use Rattle.conjuncts.proofs.Forms.{slot_at}
use Rattle.choosing.specs.Filled.{Laid, Chosen}
use Rattle.logic.specs.Bit.{bit}
use Rattle.fixpoints.specs.Positions.{bit_of}
use Rattle.conjuncts.proofs.Members.{not_picked}

-- the operands of a plain word are earlier words, and its letter is small
left_fits : (s : Shape) (l n k : ℕ) → (is_blank (left_field s) ≡ true → l ≡ 0) → (is_operand (left_field s) ≡ true → (0 < l) × (l < n)) → place Opening n < k → place Opening l < k
left_fits none l n k p q h = omega (arith, p refl)
left_fits (constant c) l n k p q h = omega (arith, p refl)
left_fits (letter c) l n k p q h = omega (arith, p refl)
left_fits (unary o) l n k p q h = omega (arith, p refl)
left_fits (binary o) l n k p q h = omega (arith, q refl)

right_fits : (s : Shape) (r n : ℕ) → (is_blank (right_field s) ≡ true → r ≡ 0) → (is_operand (right_field s) ≡ true → (0 < r) × (r < n))
    → (is_proposition (right_field s) ≡ true → (0 < r) × (r ≤ 32)) → place Opening n < 2 ^ 20 → place Opening r < 2 ^ 20
right_fits none r n p q l h = omega (arith, p refl)
right_fits (constant c) r n p q l h = omega (arith, p refl)
right_fits (letter c) r n p q l h = omega (arith, l refl)
right_fits (unary o) r n p q l h = omega (arith, q refl)
right_fits (binary o) r n p q l h = omega (arith, q refl)

pub word-plain : {limit : ℕ} {t : List ℕ} → WellFormed true limit t → {i : ℕ} → i < length t → place Opening (suc i) < 2 ^ 20 → Plain (get_or t i 0)
word-plain {t = t} f {i} h k =
    let w = f.word i h in
    let s = shape (kind (get_or t i 0)) in
    record {
      kinded = w.kinded;
      plain = w.plain refl;
      narrow = record {
        left_fits = left_fits s (left (get_or t i 0)) (suc i) (2 ^ 20) w.blank_left w.operand_left k;
        right_fits = right_fits s (right (get_or t i 0)) (suc i) w.blank_right w.operand_right w.letter k;
      };
    }

-- the slots of a word are as they were where they hold the same
slotted_same : {w j : ℕ} {b : Bool} {d e : List ℕ} → ((i : ℕ) → place Steady j ≤ i → i ≤ place Opening j → get_or e i 0 ≡ get_or d i 0) → Slotted w j b d → Slotted w j b e
slotted_same {j = j} same s = record {
  steady_slot = rw (same (place Steady j) (omega arith) (omega arith)) s.steady_slot;
  recurring_slot = rw (same (place Recurring j) (omega arith) (omega arith)) s.recurring_slot;
  always_slot = rw (same (5 * j + 2) (omega arith) (omega arith)) s.always_slot;
  either_slot = rw (same (5 * j + 3) (omega arith) (omega arith)) s.either_slot;
  opening_slot = rw (same (place Opening j) (omega arith) (omega arith)) s.opening_slot;
}

pub laid-later : {t d : List ℕ} (e : List ℕ) {n : ℕ} (k : ℕ) → Laid t d n → place Opening n < k → k ≤ length e → ((j : ℕ) → j < k → get_or e j 0 ≡ get_or d j 0) → Laid t e n
laid-later {d = d} e k q h l same = record {
  false_slot = slot_below d e k l same (omega arith) q.false_slot;
  true_slot = slot_below d e k l same (omega arith) q.true_slot;
  slots = λ i p. let x = q.slots i p in (x.0, slotted_same (λ j _ r. same j (omega arith)) x.1);
}

pub chosen_none : {t d : List ℕ} (c : ℕ) → Laid t d (length t) → Chosen t c d 0
chosen_none c q = record { laid = q; slots = λ i p. absurd (omega arith) }

module _ {t : List ℕ} {c : ℕ} {d : List ℕ} {i : ℕ} (q : Chosen t c d i) (h : i < length t) where
  -- of a word that is not until-like the slots are the same whatever the choice
  pub chosen_other : kind (get_or t i 0) < 16 → is_fixpoint_word (get_or t i 0) ≡ false → Chosen t c d (suc i)
  chosen_other small e = record { laid = q.laid; slots = λ k l. go k (eq-or-lt_of_le (le_of_suc-le-suc l)) }
    where
      either : (m : Rewriting) {b : Bool} (b' : Bool) {l r x : ℕ} → Rewritten m (get_or t i 0) b l r x → Rewritten m (get_or t i 0) b' l r x
      either m b' s = record {
        is = λ M N a b _ _. s.is M N a b (λ p. absurd (not_picked Least (get_or t i 0) small e a b p)) (λ p. absurd (not_picked Greatest (get_or t i 0) small e a b p));
      }

      go : (k : ℕ) → (k ≡ i) ⊎ (k < i) → Slotted (get_or t k 0) (suc k) (bit c (bit_of t k)) d
      go k (inl z) =
          let s = (q.laid.slots i h).1 in rw z (record {
            steady_slot = either Steady _ s.steady_slot;
            recurring_slot = either Recurring _ s.recurring_slot;
            always_slot = s.always_slot;
            either_slot = s.either_slot;
            opening_slot = s.opening_slot;
          })
      go k (inr l) = q.slots k l

  -- of any word they are those of the choice once the two that ask for it were written
  module _ {b : Bool} {e : List ℕ} (w : WordChosen (get_or t i 0) (suc i) b d e) where
    written : Slotted (get_or t i 0) (suc i) b e
    written =
        let s = (q.laid.slots i h).1 in record {
          steady_slot = w.steady_slot;
          recurring_slot = w.recurring_slot;
          always_slot = rw (w.others (5 * suc i + 2) (omega arith) (omega arith)) s.always_slot;
          either_slot = rw (w.others (5 * suc i + 3) (omega arith) (omega arith)) s.either_slot;
          opening_slot = rw (w.others (place Opening (suc i)) (omega arith) (omega arith)) s.opening_slot;
        }

    another : {k : ℕ} {b : Bool} → (k ≡ i → ⊥) → Slotted (get_or t k 0) (suc k) b d → Slotted (get_or t k 0) (suc k) b e
    another f = slotted_same (λ j l r. w.others j (λ z. f (omega arith)) (λ z. f (omega arith)))

    slot_kept : {j s : ℕ} → j < 2 → SlotIs d j s → SlotIs e j s
    slot_kept l s = slot_at (omega (arith, s.within, w.long)) (w.others _ (omega arith) (omega arith) ∙ s.is)

    pub chosen_more : b ≡ bit c (bit_of t i) → Chosen t c e (suc i)
    chosen_more is = record {
      laid = record {
        false_slot = slot_kept (omega arith) q.laid.false_slot;
        true_slot = slot_kept (omega arith) q.laid.true_slot;
        slots = λ k l. any k l (eqb k i) refl;
      };
      slots = λ k l. go k (eq-or-lt_of_le (le_of_suc-le-suc l));
    }
      where
        any : (k : ℕ) → k < length t → (y : Bool) → eqb k i ≡ y → (chosen : Bool) × Slotted (get_or t k 0) (suc k) chosen e
        any k l true z = (b, rw (eqb-true k i z) written)
        any k l false z = let s = q.laid.slots k l in (s.0, another (eqb-false k i z) s.1)

        go : (k : ℕ) → (k ≡ i) ⊎ (k < i) → Slotted (get_or t k 0) (suc k) (bit c (bit_of t k)) e
        go k (inl z) = rw (z, ← is) written
        go k (inr l) = another (λ z. omega arith) (q.slots k l)
