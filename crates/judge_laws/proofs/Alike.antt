-- Bits that are not driven are never looked at: over samples that have the same driven bits the two calls answer the same, accepted and refused
-- alike, and leave the same scratch.
use Prim.Native.Nat.{ℕ, zero, suc, ◌+◌, ◌-◌, ◌*◌, ◌<◌}
use mathlib.Core.Path.{◌≡◌, refl, sym, ap, ap₂, subst, ◌∙◌, fun_ext}
use mathlib.Core.Bool.{false}
use mathlib.Core.List.{List, [], ◌∷◌, ◌++◌}
use native.Mathlib.Omega.{arith}
use lib.ListN.{length, get_or, drop}
use Rattle.logic.specs.Formula.{Formula, const}
use Rattle.logic.specs.Lasso.{Lasso, letter_in, place}
use Rattle.logic.specs.Driven.{Driven, Drives, Agree}
use Rattle.logic.specs.Truth.{Sequence, truth}
use Rattle.logic.proofs.Lasso.Driven.{agree-truth}
use Rattle.logic.proofs.Lasso.Period.{place_lt}
use Rattle.row_words.specs.Row.{row, row_words}
use Rattle.refusals.specs.Refusals.{Outcome}
use Rattle.std.specs.Prelude.{Ok, Err}
use Rattle.table.specs.Table.{formulas, rule}
use Rattle.table.specs.Header.{body}
use Rattle.table.proofs.Formulas.{length-formulas}
use Rattle.tally.specs.declared.Tally.{Tally}
use Rattle.tally.specs.declared.Desk.{Desk}
use Rattle.judging.specs.declared.answer.Judged.{Judged}
use Rattle.tally.specs.Tallies.{counted}
use Rattle.judge_laws.specs.Alike.{Alike}
use Rattle.table_rows.specs.Rows.{lasso_of, row_of, rows_of, rows_then}
use Rattle.judging.specs.Judging.{judgement, row_outcome, judge_outcome, reply_by, reply, scratch_after, last_row, part_at}
use Rattle.table_rows.proofs.Parts.{Inside, lasso_inside}
use Rattle.judging.proofs.Accepted.{accepted-facts}
use Rattle.judging.proofs.LastRow.{judge_rows}
use Rattle.judge_laws.proofs.Promise.{accepted-word, accepted-drives, rule-drives}

-- ---- lassos of equal size that agree

module _ {r r' : Lasso} (agree : Agree r r') (size : length r.samples ≡ length r'.samples) where
  truth-alike : (φ : Formula) → Drives r φ → truth r φ ≡ truth r' φ
  truth-alike φ d = fun_ext (agree-truth agree φ d)

  row-alike : (φ : Formula) → Drives r φ → row_of r φ ≡ row_of r' φ
  unfolding row_of
  row-alike φ d = ap₂ row size (truth-alike φ d)

  rows_of-alike : (φs : List Formula) → ((j : ℕ) → j < length φs → Drives r (get_or φs j (const false))) → rows_of r φs ≡ rows_of r' φs
  unfolding rows_of
  rows_of-alike [] d = refl
  rows_of-alike (φ ∷ φs) d = ap₂ ◌++◌ (row-alike φ (d zero (omega arith))) (rows_of-alike φs (λ j h. d (suc j) (omega arith)))

  rows_then-alike : (φs : List Formula) (s : List ℕ) → ((j : ℕ) → j < length φs → Drives r (get_or φs j (const false))) → rows_then r φs s ≡ rows_then r' φs s
  unfolding rows_then
  rows_then-alike φs s d = ap₂ (λ (x : List ℕ) (n : ℕ). x ++ drop (length φs * row_words n) s) (rows_of-alike φs d) size

  reply-alike : (φ : Formula) (tally : Tally) → Drives r φ → reply_by (Ok tt) r φ tally ≡ reply_by (Ok tt) r' φ tally
  unfolding reply_by
  reply-alike φ tally d = ap₂ answers (truth-alike φ d) size
    where
      answers : Sequence → ℕ → Judged
      answers f n = record { answer = judgement f n; tally = counted tally (f 0) }

-- ---- the two calls

module _ (t samples samples' : List ℕ) (start driven : ℕ) (scratch : List ℕ) (alike : Alike driven samples samples') where
  r : Lasso
  r = lasso_of samples start driven

  r' : Lasso
  r' = lasso_of samples' start driven

  -- the checks look at the number of samples alone
  row_outcome_lem : row_outcome t samples start driven scratch ≡ row_outcome t samples' start driven scratch
  unfolding row_outcome
  row_outcome_lem = rw alike.long

  judge_outcome_lem : (desk : Desk) → judge_outcome t samples start driven scratch desk ≡ judge_outcome t samples' start driven scratch desk
  unfolding judge_outcome
  judge_outcome_lem desk = rw alike.long

  module _ (accepted : row_outcome t samples start driven scratch ≡ Ok tt) where
    accepted' : row_outcome t samples' start driven scratch ≡ Ok tt
    accepted' = sym row_outcome_lem ∙ accepted

    i : Inside samples start driven
    i = let f = accepted-facts t samples start driven scratch accepted in lasso_inside samples start driven f.inside f.few_driven

    i' : Inside samples' start driven
    i' = let f = accepted-facts t samples' start driven scratch accepted' in lasso_inside samples' start driven f.inside f.few_driven

    size : length r.samples ≡ length r'.samples
    unfolding r r'
    size = ap (λ (x : Lasso). length x.samples) i.2 ∙ alike.long ∙ sym (ap (λ (x : Lasso). length x.samples) i'.2)

    counts : r.driven ≡ driven
    unfolding r
    counts = ap (λ (x : Lasso). x.driven) i.2

    agree : Agree r r'
    unfolding r r'
    agree = record {
      driven = counts ∙ sym (ap (λ (x : Lasso). x.driven) i'.2);
      bits = λ k n d.
          ap (λ (v : ℕ). letter_in v n) (accepted-word t samples start driven scratch accepted k)
          ∙ alike.bits (place (length samples) start k) (place_lt (length samples) start k i.0) n (subst (λ (m : ℕ). Driven m n) counts d)
          ∙ ap (λ (m : ℕ). letter_in (get_or samples' (place m start k) 0) n) alike.long
          ∙ sym (ap (λ (v : ℕ). letter_in v n) (accepted-word t samples' start driven scratch accepted' k));
    }

    formulas_drive : (j : ℕ) → j < length (formulas (body t)) → Drives r (get_or (formulas (body t)) j (const false))
    unfolding r
    formulas_drive j h = accepted-drives t samples start driven scratch accepted j (omega (arith, length-formulas (body t)))

    rule_drive : Drives r (rule (body t))
    unfolding r
    rule_drive = rule-drives t samples start driven scratch accepted

  -- what becomes of the scratch, and what is handed back, by an outcome that accepts only what the row call accepts
  scratch_by : (o : Outcome) → (o ≡ Ok tt → row_outcome t samples start driven scratch ≡ Ok tt)
      → scratch_after o t samples start driven scratch ≡ scratch_after o t samples' start driven scratch
  unfolding scratch_after r r'
  scratch_by (Ok tt) a = let e = a refl in rows_then-alike (agree e) (size e) (formulas (body t)) scratch (formulas_drive e)
  scratch_by (Err why) a = refl

  part_by : (o : Outcome) → (o ≡ Ok tt → row_outcome t samples start driven scratch ≡ Ok tt) → last_row o t samples start driven ≡ last_row o t samples' start driven
  unfolding last_row r r'
  part_by (Ok tt) a = let e = a refl in row-alike (agree e) (size e) (rule (body t)) (rule_drive e)
  part_by (Err why) a = refl

  at_by : (o : Outcome) (p : ℕ × ℕ) → part_at o t samples p ≡ part_at o t samples' p
  unfolding part_at
  at_by (Ok tt) p = ap (λ (n : ℕ). (p.0, (length (body t) - 1) * row_words n * 8 + p.1)) alike.long
  at_by (Err why) p = refl

  reply_by_lem : (o : Outcome) (tally : Tally) → (o ≡ Ok tt → row_outcome t samples start driven scratch ≡ Ok tt) → reply_by o r (rule (body t)) tally ≡ reply_by o r' (rule (body t)) tally
  unfolding reply_by
  reply_by_lem (Ok tt) tally a = let e = a refl in reply-alike (agree e) (size e) (rule (body t)) tally (rule_drive e)
  reply_by_lem (Err why) tally a = refl

  -- the row call: its outcome, the scratch, the part that is handed back and where it lies
  pub row-judged-alike : (row_outcome t samples start driven scratch ≡ row_outcome t samples' start driven scratch)
      × (scratch_after (row_outcome t samples start driven scratch) t samples start driven scratch
      ≡ scratch_after (row_outcome t samples' start driven scratch) t samples' start driven scratch)
      × (last_row (row_outcome t samples start driven scratch) t samples start driven ≡ last_row (row_outcome t samples' start driven scratch) t samples' start driven)
      × ((p : ℕ × ℕ) → part_at (row_outcome t samples start driven scratch) t samples p ≡ part_at (row_outcome t samples' start driven scratch) t samples' p)
  row-judged-alike = (
    row_outcome_lem,
    scratch_by (row_outcome t samples start driven scratch) (λ e. e) ∙ ap (λ (o : Outcome). scratch_after o t samples' start driven scratch) row_outcome_lem,
    part_by (row_outcome t samples start driven scratch) (λ e. e) ∙ ap (λ (o : Outcome). last_row o t samples' start driven) row_outcome_lem,
    λ p. at_by (row_outcome t samples start driven scratch) p ∙ ap (λ (o : Outcome). part_at o t samples' p) row_outcome_lem,
  )

  -- the judge: its outcome, the whole reply and the scratch
  pub judged-alike : (desk : Desk)
      → (judge_outcome t samples start driven scratch desk ≡ judge_outcome t samples' start driven scratch desk)
      × (reply t samples start driven scratch desk ≡ reply t samples' start driven scratch desk)
      × (scratch_after (judge_outcome t samples start driven scratch desk) t samples start driven scratch
      ≡ scratch_after (judge_outcome t samples' start driven scratch desk) t samples' start driven scratch)
  unfolding reply r r'
  judged-alike desk =
      let accepts = judge_rows t samples start driven scratch desk in (
        judge_outcome_lem desk,
        reply_by_lem (judge_outcome t samples start driven scratch desk) desk.tally accepts ∙ ap (λ (o : Outcome). reply_by o r' (rule (body t)) desk.tally) (judge_outcome_lem desk),
        scratch_by (judge_outcome t samples start driven scratch desk) accepts ∙ ap (λ (o : Outcome). scratch_after o t samples' start driven scratch) (judge_outcome_lem desk),
      )
