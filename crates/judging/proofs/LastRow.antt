-- The rule's row, the last of the rows, and what is read off it.
use Prim.Native.Nat.{ℕ, suc, ◌+◌, ◌-◌, ◌*◌, ◌≤◌, ◌<◌}
use mathlib.Core.Path.{◌≡◌, sym, ap, ap₂, subst, ◌∙◌}
use mathlib.Core.Bool.{Bool, false, cond}
use mathlib.Core.List.{List, []}
use native.Mathlib.Nat.{zero-add}
use native.Mathlib.Omega.{arith}
use lib.ListN.{length, get_or, take, drop, length-drop}
use Rattle.logic.specs.Formula.{const}
use Rattle.logic.specs.Lasso.{Lasso}
use Rattle.logic.specs.Truth.{Sequence, truth}
use Rattle.row_words.specs.Row.{row, count_true, first_false}
use Rattle.row_words.specs.Writing.{RowFor}
use Rattle.refusals.specs.Refusals.{Outcome}
use Rattle.std.specs.Prelude.{Ok, Err}
use Rattle.refusals.specs.declared.Refusal.{Refusal}
use Rattle.table.specs.Table.{formula_of, formulas, rule}
use Rattle.table.specs.Header.{body}
use Rattle.row_words.specs.Row.{row_words}
use Rattle.table.proofs.Accepted.{accepted-well-formed}
use Rattle.table.proofs.Formulas.{length-formulas}
use Rattle.tally.specs.declared.Tally.{Tally}
use Rattle.tally.specs.declared.Desk.{Desk}
use Rattle.judging.specs.declared.answer.Judged.{Judged}
use Rattle.tally.specs.Tallies.{is_full, counted, tally_after}
use Rattle.table_rows.specs.Rows.{Fillable, lasso_of, row_of, rows_then}
use Rattle.judging.specs.Judging.{JudgeAnswer, judgement, reply_by, row_outcome, judge_outcome, reply, scratch_after, last_row, part_at}
use Rattle.judge_conditions.proofs.Outcomes.{judge_both, desk-accepted}
use Rattle.table_rows.proofs.Rows.{width, row_part}
use Rattle.table_rows.proofs.Parts.{Inside, lasso_inside, part_small, part_end, part_for}

-- what the judge accepts the row call accepts
pub judge_rows : (t samples : List ℕ) (start driven : ℕ) (s : List ℕ) (desk : Desk)
    → judge_outcome t samples start driven s desk ≡ Ok tt → row_outcome t samples start driven s ≡ Ok tt
unfolding judge_outcome row_outcome
judge_rows t samples start driven s desk e = (judge_both t (length samples) start driven (length s) desk e).0

-- and the desk that it names has a tally, which is not full
pub judge_desk : (t samples : List ℕ) (start driven : ℕ) (s : List ℕ) (desk : Desk)
    → judge_outcome t samples start driven s desk ≡ Ok tt → (desk.number < desk.desks) × (is_full desk.tally ≡ false)
unfolding judge_outcome
judge_desk t samples start driven s desk e = desk-accepted desk (judge_both t (length samples) start driven (length s) desk e).1

-- as many words stand before the last one as the table has, less its header and that one
pub words_before : (t : List ℕ) → length t - 2 ≡ length (body t) - 1
words_before t = omega (arith, length-drop 1 t)

-- the part of the last row among the rows of words: n of them stand before it
module _ (t samples : List ℕ) (start : ℕ) (s : List ℕ) (n words : ℕ)
    (facts : Fillable t samples start s) (before : n ≡ length t - 1) (wide : words ≡ row_words (length samples)) where
  pub some_word : 1 ≤ length t
  some_word = (accepted-well-formed false 16383 t facts.accepted).some

  last : n < length t
  last = omega (arith, some_word)

  pub last_small : n * words + words ≤ 1048576
  last_small = part_small t samples start n s words last facts wide

  pub last_end : n * words + words ≤ length s
  last_end = part_end t samples start n s words last facts wide

  pub last_for : RowFor (length samples) (take (n * words + words - n * words) (drop (n * words) s))
  last_for = part_for t samples start n s words last facts wide

  last_formula : rule t ≡ get_or (formulas t) n (const false)
  unfolding rule formula_of
  last_formula = ap (formula_of (formulas t)) same
    where
      same : length t ≡ suc n
      same = omega (arith, some_word)

  pub last_row_lem : (driven : ℕ) → driven ≤ 32 → (u : List ℕ) → s ≡ rows_then (lasso_of samples start driven) (formulas t) u
      → take (n * words + words - n * words) (drop (n * words) s) ≡ row_of (lasso_of samples start driven) (rule t)
  unfolding rows_then
  last_row_lem driven few u e =
      let r : Lasso = lasso_of samples start driven in
      let i : Inside samples start driven = lasso_inside samples start driven facts.inside few in
      let wider : words ≡ width r = wide ∙ ap (λ (x : Lasso). width x) (sym i.2) in
      let rest : n * words + words - n * words ≡ words = omega arith in
      ap (λ (k : ℕ). take k (drop (n * words) s)) rest
      ∙ ap₂ (λ (k : ℕ) (x : List ℕ). take k (drop (n * k) x)) wider e
      ∙ row_part r (formulas t) n (drop (length (formulas t) * width r) u) (omega (arith, length-formulas t, last))
      ∙ ap (row_of r) (sym last_formula)

-- a tally that is not full is counted on
tally_counted : (c : Tally) (holds : Bool) → is_full c ≡ false → tally_after c holds ≡ counted c holds
tally_counted c holds e = ap (λ (b : Bool). cond b c (counted c holds)) e

-- the three answers, from what is read off a row
pub judged_is : (f : Sequence) (L : ℕ) (holds : Bool) (moments failing : ℕ) → holds ≡ f 0 → moments ≡ count_true f L → failing ≡ first_false f 0 L
    → ◌≡◌ {A = JudgeAnswer} (Ok (record { holds = holds; moments = moments; failing = failing })) (judgement f L)
judged_is f L holds moments failing a b c = cc

-- what is read off the rule's row is the reply to an accepted judgement
pub accepted-answer : (t samples : List ℕ) (start driven : ℕ) (part : List ℕ) (tally : Tally) (j : Judged)
    → start < length samples → driven ≤ 32 → is_full tally ≡ false
    → part ≡ row_of (lasso_of samples start driven) (rule t)
    → ((f : Sequence) → part ≡ row (length samples) f → (j.answer ≡ judgement f (length samples)) × (j.tally ≡ tally_after tally (f 0)))
    → j ≡ reply_by (Ok tt) (lasso_of samples start driven) (rule t) tally
unfolding reply_by row_of
accepted-answer t samples start driven part tally j inside few e p read =
    let i : Inside samples start driven = lasso_inside samples start driven inside few in
    let r : Lasso = record { samples = samples; start = start; driven = driven; inside = i.0; few = i.1 } in
    let f : Sequence = truth r (rule t) in
    let known = read f (subst (λ (x : Lasso). part ≡ row_of x (rule t)) i.2 p) in
    let built : j ≡ reply_by (Ok tt) r (rule t) tally = as_judged known.0 (known.1 ∙ tally_counted tally (f 0) e) in
    built ∙ ap (λ (x : Lasso). reply_by (Ok tt) x (rule t) tally) (sym i.2)
  where
    as_judged : {a : JudgeAnswer} {c : Tally} → j.answer ≡ a → j.tally ≡ c → j ≡ record { answer = a; tally = c }
    as_judged d h = ap₂ (λ (a : JudgeAnswer) (c : Tally). record { answer = a; tally = c }) d h

-- the reply, by what the checks say
pub accepted-reply : (t samples : List ℕ) (start driven : ℕ) (s : List ℕ) (desk : Desk) → judge_outcome t samples start driven s desk ≡ Ok tt
    → reply_by (Ok tt) (lasso_of samples start driven) (rule (body t)) desk.tally ≡ reply t samples start driven s desk
unfolding reply
accepted-reply t samples start driven s desk e = ap (λ (o : Outcome). reply_by o (lasso_of samples start driven) (rule (body t)) desk.tally) (sym e)

pub refused-reply : (t samples : List ℕ) (start driven : ℕ) (s : List ℕ) (desk : Desk) (why : Refusal)
    → judge_outcome t samples start driven s desk ≡ Err why → record { answer = Err why; tally = desk.tally } ≡ reply t samples start driven s desk
unfolding reply reply_by
refused-reply t samples start driven s desk why e = ap (λ (o : Outcome). reply_by o (lasso_of samples start driven) (rule (body t)) desk.tally) (sym e)

-- ---- the scratch and the part, by what the checks say

pub accepted-scratch : {o : Outcome} (t samples : List ℕ) (start driven : ℕ) (s : List ℕ) → o ≡ Ok tt
    → rows_then (lasso_of samples start driven) (formulas (body t)) s ≡ scratch_after o t samples start driven s
unfolding scratch_after
accepted-scratch t samples start driven s e = ap (λ (o : Outcome). scratch_after o t samples start driven s) (sym e)

pub refused-scratch : {o : Outcome} {why : Refusal} (t samples : List ℕ) (start driven : ℕ) (s : List ℕ) → o ≡ Err why
    → s ≡ scratch_after o t samples start driven s
unfolding scratch_after
refused-scratch t samples start driven s e = ap (λ (o : Outcome). scratch_after o t samples start driven s) (sym e)

pub accepted_part : {o : Outcome} (t samples : List ℕ) (start driven : ℕ) → o ≡ Ok tt
    → row_of (lasso_of samples start driven) (rule (body t)) ≡ last_row o t samples start driven
unfolding last_row
accepted_part t samples start driven e = ap (λ (o : Outcome). last_row o t samples start driven) (sym e)

pub refused_part : {o : Outcome} {why : Refusal} (t samples : List ℕ) (start driven : ℕ) → o ≡ Err why → [] ≡ last_row o t samples start driven
unfolding last_row
refused_part t samples start driven e = ap (λ (o : Outcome). last_row o t samples start driven) (sym e)

pub accepted_at : {o : Outcome} (t samples : List ℕ) (p : ℕ × ℕ) {words : ℕ} → o ≡ Ok tt → words ≡ row_words (length samples)
    → ◌≡◌ {A = ℕ × ℕ} (p.0, (length t - 2) * words * 8 + p.1) (part_at o t samples p)
unfolding part_at
accepted_at t samples p e wide = ap₂ (λ (n x : ℕ). (p.0, n * x * 8 + p.1)) (words_before t) wide ∙ ap (λ (o : Outcome). part_at o t samples p) (sym e)

pub refused_at : {o : Outcome} {why : Refusal} (t samples : List ℕ) (p : ℕ × ℕ) → o ≡ Err why → ◌≡◌ {A = ℕ × ℕ} (p.0, 0 * 8 + p.1) (part_at o t samples p)
unfolding part_at
refused_at t samples p e = ap (λ (x : ℕ). (p.0, x)) (zero-add p.1) ∙ ap (λ (o : Outcome). part_at o t samples p) (sym e)
