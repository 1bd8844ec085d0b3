-- The table is refused, or its words are converted.
use mathlib.Core.Path.{sym}
use Rattle.std.proofs.lemmas.Result.{err_from_is_err_and}
use Rattle.heading.proofs.Order.{some_word}
use Rattle.dialect.proofs.Step.{words-accepted, refused, made}
use Rattle.dialect.proofs.convert.Goals as goal

pub slice_bounds-answer-count : goal.slice_bounds-answer-count
slice_bounds-answer-count c = some_word _ _ _ (sym c.in_ok-check.ensures)

pub slice_bounds-answer-start : goal.slice_bounds-answer-start
slice_bounds-answer-start c = some_word _ _ _ (sym c.in_ok-check.ensures)

pub answer-requires : goal.answer-requires
answer-requires c = words-accepted _ (sym c.in_ok-check.ensures)

pub returns-in_err-check : goal.returns-in_err-check
returns-in_err-check c =
    let p = err_from_is_err_and c.from_residual.result c.from_residual.ensures.1 in
    let r = refused c.args.table.now c.args.res.now _ (sym c.in_err-check.ensures) in
    record { value = rw (p.1, p.2) r.reply; res_after = r.slice }

pub returns : goal.returns
returns c =
    let r = made c.args.table.now c.args.res.now (sym c.in_ok-check.ensures) c.answer.ensures in
    record { value = r.reply; res_after = r.slice }
