-- A form and its rule before the judge, a written rule or a plain table that was handed in: wherever the row call takes the rule it takes the form, given the
-- room, and both get the same answer.
use Prim.Native.Nat.{ℕ, ◌*◌, ◌≤◌}
use mathlib.Core.Path.{◌≡◌, ap, fun_ext}
use mathlib.Core.Logic.Iff
use mathlib.Core.List.{List}
use lib.ListN.{length, take}
use Rattle.logic.specs.Lasso.{Lasso}
use Rattle.logic.specs.Truth.{truth}
use Rattle.logic.proofs.Tests.{T_same}
use Rattle.logic.proofs.Lasso.Truth.{truth-holds}
use Rattle.std.specs.Prelude.{Ok}
use Rattle.table.specs.Table.{rule}
use Rattle.table.specs.Header.{body}
use Rattle.table.proofs.Header.{accepted-headed}
use Rattle.row_words.specs.Row.{row, row_words}
use Rattle.claims.specs.FormStep.{Formed}
use Rattle.judging.specs.Judging.{lasso_of, row_of, judgement, row_outcome, last_row}
use Rattle.judge_conditions.proofs.Outcomes.{judgeable-accepted}
use Rattle.judging.proofs.Accepted.{accepted-facts}
use Rattle.judge_laws.proofs.Promise.{rule-drives}

module _ (t p form : List ℕ) (n : ℕ) (kept : Formed t p form n) (samples : List ℕ) (start driven : ℕ) (scratch : List ℕ)
    (accepted : row_outcome t samples start driven scratch ≡ Ok tt) where
  -- a scratch that has the words of its rows is all that the form still needs
  pub form-accepted : (scratch' : List ℕ) → length (body (take n form)) * row_words (length samples) ≤ length scratch' → row_outcome (take n form) samples start driven scratch' ≡ Ok tt
  unfolding row_outcome
  form-accepted scratch' room =
      let f = accepted-facts t samples start driven scratch accepted in
      let h = accepted-headed _ _ (take n form) kept.accepted in
      judgeable-accepted (take n form) (length samples) start driven (length scratch') (record {
        accepted = h.words;
        whole = h.whole;
        some = f.some;
        few = f.few;
        inside = f.inside;
        few_driven = f.few_driven;
        letters = kept.driven driven f.letters;
        room = room;
      })

  -- the rows of both are the same, and with them all that is read off a row
  pub same_truth : truth (lasso_of samples start driven) (rule (body (take n form))) ≡ truth (lasso_of samples start driven) (rule (body t))
  same_truth = fun_ext (λ i.
      let r : Lasso = lasso_of samples start driven in
      T_same _ _ (Iff.trans (truth-holds r (rule (body (take n form))) i) (Iff.trans (kept.holds r (rule-drives t samples start driven scratch accepted) i) (Iff.symm (truth-holds r (rule (body t)) i)))))

  pub same_row : last_row (Ok tt) (take n form) samples start driven ≡ last_row (Ok tt) t samples start driven
  unfolding last_row row_of
  same_row = ap (row (length (lasso_of samples start driven).samples)) same_truth

  pub same_judgement : judgement (truth (lasso_of samples start driven) (rule (body (take n form)))) (length samples) ≡ judgement (truth (lasso_of samples start driven) (rule (body t))) (length samples)
  same_judgement = ap (λ f. judgement f (length samples)) same_truth
