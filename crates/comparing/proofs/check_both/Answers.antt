-- The first recording's checks, and where they pass those of the second.
use mathlib.Core.Path.{sym, ◌∙◌}
use Rattle.std.proofs.lemmas.Result.{err_from_is_err_and}
use Rattle.refusals.proofs.First.{first_append-accepted, first_append-refused}
use Rattle.judge_conditions.specs.Checks.{recording_checks}
use Rattle.agreement.specs.Comparing.{comparison_checks}
use Rattle.comparing.proofs.check_both.Goals as goal

pub returns-in_err-check_recording : goal.returns-in_err-check_recording
unfolding comparison_checks
returns-in_err-check_recording c =
    let a = c.args in
    let p = err_from_is_err_and c.from_residual.result c.from_residual.ensures.1 in
    rw (p.1, p.2) (sym (first_append-refused (recording_checks a.samples a.start a.driven) _ _ (sym c.in_err-check_recording.ensures)))

pub returns : goal.returns
unfolding comparison_checks
returns c =
    let a = c.args in
    c.check_second.ensures ∙ sym (first_append-accepted (recording_checks a.samples a.start a.driven) _ (sym c.in_ok-check_recording.ensures))
