-- The row call's checks, and where they pass the named desk's.
use mathlib.Core.Path.{sym, ◌∙◌}
use Rattle.std.proofs.lemmas.Result.{err_from_is_err_and}
use Rattle.judge_conditions.proofs.Outcomes.{judge_refused, judge_accepted}
use Rattle.judge_checks.proofs.checks.check_judge.Goals as goal

pub returns-in_err-check_row : goal.returns-in_err-check_row
returns-in_err-check_row c =
    let p = err_from_is_err_and c.from_residual.result c.from_residual.ensures.1 in
    rw (p.1, p.2) (sym (judge_refused _ _ _ _ _ _ _ (sym c.in_err-check_row.ensures)))

pub returns : goal.returns
returns c = c.check_desk.ensures ∙ sym (judge_accepted _ _ _ _ _ _ (sym c.in_ok-check_row.ensures))
