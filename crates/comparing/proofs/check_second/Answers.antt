-- The recording's checks, and where they pass that of the two counts.
use mathlib.Core.Path.{sym, ◌∙◌}
use borrow.Author.Tests.{eq-eqb, ne_eqb}
use Rattle.std.proofs.lemmas.Result.{err_from_is_err_and}
use Rattle.refusals.proofs.First.{first_append-accepted, first_append-refused}
use Rattle.judge_conditions.specs.Checks.{recording_checks}
use Rattle.agreement.specs.Comparing.{count_checks}
use Rattle.comparing.proofs.check_second.Goals as goal

pub returns-in_err-check_recording : goal.returns-in_err-check_recording
returns-in_err-check_recording c =
    let a = c.args in
    let p = err_from_is_err_and c.from_residual.result c.from_residual.ensures.1 in
    rw (p.1, p.2) (sym (first_append-refused (recording_checks a.samples a.start a.driven) _ _ (sym c.in_err-check_recording.ensures)))

pub returns-then-first_driven-driven : goal.returns-then-first_driven-driven
unfolding count_checks
returns-then-first_driven-driven c =
    let a = c.args in
    sym (first_append-accepted (recording_checks a.samples a.start a.driven) (count_checks a.first_driven a.driven)
    (sym c.in_ok-check_recording.ensures)
    ∙ rw (eq-eqb _ _ c.if-first_driven-driven.true))

pub returns-else-first_driven-driven : goal.returns-else-first_driven-driven
unfolding count_checks
returns-else-first_driven-driven c =
    let a = c.args in
    sym (first_append-accepted (recording_checks a.samples a.start a.driven) (count_checks a.first_driven a.driven)
    (sym c.in_ok-check_recording.ensures)
    ∙ rw (ne_eqb _ _ c.if-first_driven-driven.false))
