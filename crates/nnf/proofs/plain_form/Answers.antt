use mathlib.Core.Path.{◌≡◌, sym, ◌∙◌}
use mathlib.Core.Bool.{true}
use Rattle.std.proofs.lemmas.Result.{err_from_is_err_and}
use Rattle.table.specs.Limits.{is_permitted}
use Rattle.heading.proofs.Order.{whole_body, some_word}
use Rattle.nnf.proofs.Step.{outside, refused, formable, given}
use Rattle.nnf.proofs.plain_form.Goals as goal

pub returns-then-not-permitted : goal.returns-then-not-permitted
returns-then-not-permitted c =
    let r = outside c.args.limits c.args.table.now c.args.res.now (sym c.permitted.ensures ∙ c.if-not-permitted.true) in
    record { value = r.reply; res_after = r.slice }

pub slice_bounds-answer-count : goal.slice_bounds-answer-count
slice_bounds-answer-count c = some_word _ _ _ (sym c.in_ok-check.ensures)

pub slice_bounds-answer-start : goal.slice_bounds-answer-start
slice_bounds-answer-start c = some_word _ _ _ (sym c.in_ok-check.ensures)

pub answer-requires : goal.answer-requires
answer-requires c =
    let within : is_permitted c.args.limits ≡ true = sym c.permitted.ensures ∙ c.if-not-permitted.false in
    rw (whole_body c.args.table.now) (formable c.args.limits c.args.table.now c.args.res.now within (sym c.in_ok-check.ensures))

pub returns-in_err-check : goal.returns-in_err-check
returns-in_err-check c =
    let p = err_from_is_err_and c.from_residual.result c.from_residual.ensures.1 in
    let within : is_permitted c.args.limits ≡ true = sym c.permitted.ensures ∙ c.if-not-permitted.false in
    let r = refused c.args.limits c.args.table.now c.args.res.now within _ (sym c.in_err-check.ensures) in
    record { value = rw (p.1, p.2) r.reply; res_after = r.slice }

pub returns : goal.returns
returns c =
    let within : is_permitted c.args.limits ≡ true = sym c.permitted.ensures ∙ c.if-not-permitted.false in
    let r = given c.args.limits c.args.table.now c.args.res.now within (sym c.in_ok-check.ensures) (rw (whole_body c.args.table.now) at c.answer.ensures) in
    record { value = r.reply; res_after = r.slice }
