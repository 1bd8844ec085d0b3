-- The letters' checks, and where they pass the scratch's.
use mathlib.Core.Path.{sym, ◌∙◌}
use Rattle.std.proofs.lemmas.Result.{err_from_is_err_and}
use Rattle.table.specs.StepChecks.{letter_checks}
use Rattle.refusals.proofs.First.{first_append-accepted, first_append-refused}
use Rattle.lent_checks.proofs.check_words.Goals as goal

pub returns-in_err-check_letters : goal.returns-in_err-check_letters
returns-in_err-check_letters c =
    let a = c.args in
    let p = err_from_is_err_and c.from_residual.result c.from_residual.ensures.1 in
    rw (p.1, p.2) (sym (first_append-refused (letter_checks a.driven 1 a.table.now) _ _ (sym c.in_err-check_letters.ensures)))

pub returns : goal.returns
returns c =
    let a = c.args in
    c.check_scratch.ensures ∙ sym (first_append-accepted (letter_checks a.driven 1 a.table.now) _ (sym c.in_ok-check_letters.ensures))
