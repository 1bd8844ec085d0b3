-- The states are numbered; the state or the sample is refused, or the move is given.
use borrow.Author.Rules.{rules}
use mathlib.Core.Path.{◌≡◌, sym, ◌∙◌}
use Rattle.std.specs.Prelude.{Ok}
use Rattle.std.proofs.lemmas.Result.{err_from_is_err_and}
use Rattle.refusals.specs.Refusals.{first}
use Rattle.move_checks.specs.Left.{left_checks}
use Rattle.move_answers.proofs.Given.{left_known, answered-refused, answered_given}
use Rattle.move_answers.proofs.answer.Goals as goal

pub give-requires : goal.give-requires
give-requires c =
    let passed : first (left_checks c.args.state c.args.driven c.args.words.now) ≡ Ok tt = sym c.in_ok-check_asked.ensures in
    left_known c.args.driven c.requires.accepted c.fill-total.ensures passed

pub returns-in_err-check_asked : goal.returns-in_err-check_asked
returns-in_err-check_asked c =
    let p = err_from_is_err_and c.from_residual.result c.from_residual.ensures.1 in
    rw (p.1, p.2) (answered-refused (sym c.in_err-check_asked.ensures))

pub returns : goal.returns
returns c =
    let passed : first (left_checks c.args.state c.args.driven c.args.words.now) ≡ Ok tt = sym c.in_ok-check_asked.ensures in
    answered_given passed c.give.ensures
