-- The recording's checks, and where they pass those of the letters and the scratch.
use borrow.Author.Rules.{rules}
use borrow.Author.Tests.{ltb-false}
use mathlib.Core.Path.{sym, ◌∙◌}
use Rattle.std.proofs.lemmas.Result.{err_from_is_err_and}
use Rattle.refusals.proofs.First.{first_passed, first_append-accepted, first_append-refused}
use Rattle.judge_conditions.specs.Checks.{recording_checks}
use Rattle.lent_checks.proofs.check_memory.Goals as goal

pub check_words-requires : goal.check_words-requires
unfolding recording_checks
check_words-requires c =
    let a = c.args in
    let p = first_passed (recording_checks a.samples a.start a.driven) (sym c.in_ok-check_recording.ensures) in
    (search rules, ltb-false 4096 a.samples p.1.0)

pub returns-in_err-check_recording : goal.returns-in_err-check_recording
returns-in_err-check_recording c =
    let a = c.args in
    let p = err_from_is_err_and c.from_residual.result c.from_residual.ensures.1 in
    rw (p.1, p.2) (sym (first_append-refused (recording_checks a.samples a.start a.driven) _ _ (sym c.in_err-check_recording.ensures)))

pub returns : goal.returns
returns c =
    let a = c.args in
    c.check_words.ensures ∙ sym (first_append-accepted (recording_checks a.samples a.start a.driven) _ (sym c.in_ok-check_recording.ensures))
