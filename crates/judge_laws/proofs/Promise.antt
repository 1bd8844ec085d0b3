-- Demand 2: in every accepted call, for every word and every position, those of the endless repeat included, the bit of the
-- word's row at the position's place is 1 if and only if the word's formula holds there by the definition over all later positions. A table is
-- handed over with its header, and its words are those after it.
use Prim.Native.Nat.{ℕ, zero, suc, ◌+◌, ◌*◌, ◌/◌, ◌%◌, ◌≤◌, ◌<◌}
use native.Mathlib.Nat.{add-zero, zero-add, eq-or-lt_of_le}
use native.Mathlib.Numerals.{add-one}
use mathlib.Core.Path.{◌≡◌, refl, sym, ap, subst, ◌∙◌}
use mathlib.Core.Logic.{◌↔◌, ◌⊎◌, inl, inr}
use mathlib.Core.Bool.{Bool, true, false, cond}
use mathlib.Core.List.{List}
use native.Mathlib.Decide.{dec_lt}
use native.Mathlib.Omega.{arith}
use lib.ListN.{length, get_or, get_or-eq_default}
use lib.Dec.{T}
use Rattle.logic.specs.Formula.{Formula, const}
use Rattle.logic.specs.Lasso.{Lasso, place, word}
use Rattle.logic.specs.Semantics.{Predicate, Holds}
use Rattle.logic.specs.Driven.{Drives}
use Rattle.logic.specs.Truth.{Sequence, truth}
use Rattle.logic.proofs.Lasso.Period.{place_lt, truth-place}
use Rattle.logic.proofs.Lasso.Truth.{truth-holds}
use Rattle.logic.specs.Bit.{bit}
use Rattle.row_words.specs.Row.{digit, row, row_words, word_of, count_true, first_false}
use Rattle.row_words.proofs.Bits.{bit_above, pack_lt}
use Rattle.row_words.proofs.Rows.{row_length, row_word, word-bit}
use Rattle.refusals.specs.Refusals.{Outcome}
use Rattle.std.specs.Prelude.{Ok, Err}
use Rattle.refusals.specs.Refusals.{outcome_number, outcome_place}
use Rattle.table.specs.Table.{formula_of, formulas, rule}
use Rattle.table.specs.Header.{body}
use Rattle.table.proofs.Formulas.{length-formulas}
use Rattle.table.proofs.Accepted.{accepted-well-formed}
use Rattle.table.proofs.Letters.{formulas-driven}
use Rattle.tally.specs.declared.Desk.{Desk}
use Rattle.table_rows.specs.Rows.{row_number}
use Rattle.table_rows.specs.Rows.{lasso_of, row_of, rows_then}
use Rattle.judging.specs.Judging.{row_outcome, judge_outcome, reply_by, reply, scratch_after, last_row}
use Rattle.judge_laws.specs.Answers.{said, holds_in, Count, none, one_more, no_more, Judges}
use Rattle.judge_conditions.proofs.Outcomes.{Judgeable}
use Rattle.table_rows.proofs.Rows.{width, row_part}
use Rattle.table_rows.proofs.Parts.{Inside, lasso_inside}
use Rattle.judging.proofs.Accepted.{accepted-facts}
use Rattle.judging.proofs.LastRow.{judge_rows, accepted-scratch}

-- a row's bit at a position below its number of positions
row-bit : (L : ℕ) (f : Sequence) (i : ℕ) → i < L → holds_in (row L f) i ≡ f i
row-bit L f i h = ap (λ (x : ℕ). bit x (i % 64)) (row_word L f (i / 64) (omega arith)) ∙ word-bit L f i h

-- a Bool that is another, which says that something holds
says : {A : Type 0} {b c : Bool} → b ≡ c → T c ↔ A → T b ↔ A
says e h = (λ x. h.0 (subst T e x), λ x. subst T (sym e) (h.1 x))

-- the bits that no position has are 0
pub high_bits : (L : ℕ) (f : Sequence) (i : ℕ) → L ≤ i → holds_in (row L f) i ≡ false
unfolding word_of
high_bits L f i h = by (dec_lt (i / 64) (row_words L))
  where
    by : Dec (i / 64 < row_words L) → holds_in (row L f) i ≡ false
    by (yes k) =
        ap (λ (x : ℕ). bit x (i % 64)) (row_word L f (i / 64) k)
        ∙ bit_above _ _ (i % 64) (pack_lt f (i / 64 * 64) _) (omega arith)
    by (no k) =
        ap (λ (x : ℕ). bit x (i % 64)) (get_or-eq_default (row L f) 0 (omega (arith, row_length L f)))
        ∙ bit_above 0 0 (i % 64) (omega arith) (omega arith)

-- the row of a formula says at a position's place what its truth is at the position
place-bit : (r : Lasso) (φ : Formula) (i : ℕ) → holds_in (row_of r φ) (place (length r.samples) r.start i) ≡ truth r φ i
unfolding row_of
place-bit r φ i =
    row-bit (length r.samples) (truth r φ) _ (place_lt (length r.samples) r.start i r.inside) ∙ sym (truth-place r φ i)

module _ (t samples : List ℕ) (start driven : ℕ) (scratch : List ℕ) (accepted : row_outcome t samples start driven scratch ≡ Ok tt) where
  facts : Judgeable t (length samples) start driven (length scratch)
  facts = accepted-facts t samples start driven scratch accepted

  inside : Inside samples start driven
  inside = lasso_inside samples start driven facts.inside facts.few_driven

  -- the lasso of an accepted call reads as document 01 says of its samples
  pub accepted-word : (i : ℕ) → word (lasso_of samples start driven) i ≡ get_or samples (place (length samples) start i) 0
  unfolding word
  accepted-word i = ap (λ (r : Lasso). word r i) inside.2

  -- it drives every letter of every word's formula
  pub accepted-drives : (j : ℕ) → j < length (body t) → Drives (lasso_of samples start driven) (get_or (formulas (body t)) j (const false))
  unfolding formula_of
  accepted-drives j h =
      subst (λ (r : Lasso). Drives r (get_or (formulas (body t)) j (const false))) (sym inside.2)
      (formulas-driven (accepted-well-formed false 16383 (body t) facts.accepted) driven facts.letters (suc j) h)

  pub rule-drives : Drives (lasso_of samples start driven) (rule (body t))
  unfolding rule
  rule-drives =
      subst (λ (r : Lasso). Drives r (rule (body t))) (sym inside.2)
      (formulas-driven (accepted-well-formed false 16383 (body t) facts.accepted) driven facts.letters (length (body t)) (omega arith))

  -- row j of the scratch afterwards
  pub row_of_word : (j : ℕ) → j < length (body t)
      → row_number (row_words (length samples)) j (rows_then (lasso_of samples start driven) (formulas (body t)) scratch)
      ≡ row_of (lasso_of samples start driven) (get_or (formulas (body t)) j (const false))
  unfolding rows_then
  row_of_word j h =
      ap (λ (r : Lasso). row_number (width r) j (rows_then (lasso_of samples start driven) (formulas (body t)) scratch)) (sym inside.2)
      ∙ row_part (lasso_of samples start driven) (formulas (body t)) j _ (omega (arith, length-formulas (body t)))

  bit_of-word : (j : ℕ) → j < length (body t) → (i : ℕ)
      → holds_in (row_number (row_words (length samples)) j (rows_then (lasso_of samples start driven) (formulas (body t)) scratch)) (place (length samples) start i)
      ≡ truth (lasso_of samples start driven) (get_or (formulas (body t)) j (const false)) i
  bit_of-word j h i =
      ap (λ (x : List ℕ). holds_in x (place (length samples) start i)) (row_of_word j h)
      ∙ ap (λ (r : Lasso). holds_in (row_of (lasso_of samples start driven) φ) (place (length r.samples) r.start i)) (sym inside.2)
      ∙ place-bit (lasso_of samples start driven) φ i
    where
      φ : Formula
      φ = get_or (formulas (body t)) j (const false)

  Promise : List ℕ → Type 0
  Promise after = (j : ℕ) → j < length (body t) → (i : ℕ)
      → T (holds_in (row_number (row_words (length samples)) j after) (place (length samples) start i))
      ↔ Holds (word (lasso_of samples start driven)) (get_or (formulas (body t)) j (const false)) i

  promised : (after : List ℕ) → rows_then (lasso_of samples start driven) (formulas (body t)) scratch ≡ after → Promise after
  unfolding Promise
  promised after e j h i =
      let φ : Formula = get_or (formulas (body t)) j (const false) in
      let same : holds_in (row_number (row_words (length samples)) j after) (place (length samples) start i) ≡ truth (lasso_of samples start driven) φ i =
      ap (λ (x : List ℕ). holds_in (row_number (row_words (length samples)) j x) (place (length samples) start i)) (sym e) ∙ bit_of-word j h i
      in
      says same (truth-holds (lasso_of samples start driven) φ i)

-- the row call
pub row_promise : (t samples : List ℕ) (start driven : ℕ) (scratch : List ℕ) → row_outcome t samples start driven scratch ≡ Ok tt
    → (j : ℕ) → j < length (body t) → (i : ℕ)
    → T (holds_in (row_number (row_words (length samples)) j (scratch_after (row_outcome t samples start driven scratch) t samples start driven scratch)) (place (length samples) start i))
    ↔ Holds (word (lasso_of samples start driven)) (get_or (formulas (body t)) j (const false)) i
unfolding Promise
row_promise t samples start driven scratch e = promised t samples start driven scratch e _ (accepted-scratch t samples start driven scratch e)

-- the judge
pub judge_promise : (t samples : List ℕ) (start driven : ℕ) (scratch : List ℕ) (desk : Desk) → judge_outcome t samples start driven scratch desk ≡ Ok tt
    → (j : ℕ) → j < length (body t) → (i : ℕ)
    → T (holds_in (row_number (row_words (length samples)) j (scratch_after (judge_outcome t samples start driven scratch desk) t samples start driven scratch)) (place (length samples) start i))
    ↔ Holds (word (lasso_of samples start driven)) (get_or (formulas (body t)) j (const false)) i
unfolding Promise
judge_promise t samples start driven scratch desk e =
    promised t samples start driven scratch (judge_rows t samples start driven scratch desk e) _ (accepted-scratch t samples start driven scratch e)

-- ---- the answers

-- what is counted and found off a sequence, by a predicate that it decides
module _ (f : Sequence) (P : Predicate) (h : (i : ℕ) → T (f i) ↔ P i) where
  true-holds : (i : ℕ) → f i ≡ true → P i
  true-holds i e = (h i).0 (subst T (sym e) tt)

  false-fails : (i : ℕ) → f i ≡ false → P i → ⊥
  false-fails i e p = subst T e ((h i).1 p)

  count-holds : (n : ℕ) → Count P n (count_true f n)
  unfolding count_true
  count-holds zero = none
  count-holds (suc n) = go (f n) refl (count-holds n)
    where
      go : (b : Bool) → f n ≡ b → Count P n (count_true f n) → Count P (suc n) (count_true f n + digit b)
      go true e c = rw add-one (one_more (true-holds n e) c)
      go false e c = rw add-zero (no_more (false-fails n e) c)

  first_fails : (i n : ℕ) → ((j : ℕ) → i ≤ j → j < first_false f i n → P j)
      × ((first_false f i n ≡ i + n) ⊎ ((first_false f i n < i + n) × (P (first_false f i n) → ⊥)))
  unfolding first_false
  first_fails i zero = (λ j a b. absurd (omega arith), inl (sym (add-zero i)))
  first_fails i (suc n) = go (f i) refl (first_fails (suc i) n)
    where
      k : ℕ
      k = first_false f (suc i) n

      go : (b : Bool) → f i ≡ b
          → ((j : ℕ) → suc i ≤ j → j < k → P j) × ((k ≡ suc i + n) ⊎ ((k < suc i + n) × (P k → ⊥)))
          → ((j : ℕ) → i ≤ j → j < cond b k i → P j) × ((cond b k i ≡ i + suc n) ⊎ ((cond b k i < i + suc n) × (P (cond b k i) → ⊥)))
      go true e r = (
        λ j a b. elim (eq-or-lt_of_le a) [ inl q ↦ subst P q (true-holds i e) | inr l ↦ r.0 j l b ],
        elim r.1 [ inl q ↦ inl (omega arith) | inr q ↦ inr (omega (arith, q.0), q.1) ],
      )
      go false e r = (λ j a b. absurd (omega arith), inr (omega arith, false-fails i e))

-- the number and place of every judgement are its checks'
pub said_outcome : (t samples : List ℕ) (start driven : ℕ) (scratch : List ℕ) (desk : Desk)
    → ((said (reply t samples start driven scratch desk).answer).number ≡ outcome_number (judge_outcome t samples start driven scratch desk))
    × ((said (reply t samples start driven scratch desk).answer).place ≡ outcome_place (judge_outcome t samples start driven scratch desk))
unfolding reply reply_by
said_outcome t samples start driven scratch desk = by (judge_outcome t samples start driven scratch desk)
  where
    by : (o : Outcome) → ((said (reply_by o (lasso_of samples start driven) (rule (body t)) desk.tally).answer).number ≡ outcome_number o)
        × ((said (reply_by o (lasso_of samples start driven) (rule (body t)) desk.tally).answer).place ≡ outcome_place o)
    by (Ok tt) = (refl, refl)
    by (Err why) = (refl, refl)

-- an accepted judgement, by the meaning of the rule
pub accepted-judgement : (t samples : List ℕ) (start driven : ℕ) (scratch : List ℕ) (desk : Desk) → judge_outcome t samples start driven scratch desk ≡ Ok tt
    → Judges (Holds (word (lasso_of samples start driven)) (rule (body t))) (length samples) (said (reply t samples start driven scratch desk).answer)
    (last_row (row_outcome t samples start driven scratch) t samples start driven)
unfolding reply last_row reply_by row_of
accepted-judgement t samples start driven scratch desk e =
    let r : Lasso = lasso_of samples start driven in
    let rows = judge_rows t samples start driven scratch desk e in
    let size : length r.samples ≡ length samples = ap (λ (x : Lasso). length x.samples) (inside t samples start driven scratch rows).2 in
    let first = first_fails (truth r (rule (body t))) (Holds (word r) (rule (body t))) (truth-holds r (rule (body t))) 0 (length r.samples) in
    rw (e, rows, ← size) (record {
      accepted = (refl, refl);
      held = truth-holds r (rule (body t)) 0;
      counted = count-holds (truth r (rule (body t))) (Holds (word r) (rule (body t))) (truth-holds r (rule (body t))) (length r.samples);
      first = record { before = λ i l. first.0 i (omega arith) l; there = rw zero-add at first.1 };
      bits = λ i l. says (row-bit (length r.samples) (truth r (rule (body t))) i l) (truth-holds r (rule (body t)) i);
    })
