use mathlib.Core.Path.{sym, ◌∙◌}
use native.Mathlib.Omega.{arith}
use borrow.Author.Rules.{rules}
use Rattle.std.proofs.lemmas.Result.{err_from_is_err_and}
use Rattle.claims.proofs.Promise.{within, claimed-refused, claimed_made}
use Rattle.pipeline.proofs.form.Goals as goal

pub slice_bounds-form-end : goal.slice_bounds-form-end
slice_bounds-form-end c =
    let a = c.args in
    let f = c.plain_form in
    within a.limits a.table.now a.plain.now f.new.res _ (sym f.ensures.value ∙ c.in_ok-n.was) f.auto.res

pub returns-in_err-n : goal.returns-in_err-n
returns-in_err-n c =
    let a = c.args in
    let f = c.plain_form in
    let p = err_from_is_err_and c.from_residual.result c.from_residual.ensures.1 in
    rw (p.1, p.2) (claimed-refused a.limits a.table.now a.plain.now a.form.now (sym f.ensures.value ∙ c.in_err-n.was) f.ensures.res_after)

pub returns : goal.returns
returns c =
    let a = c.args in
    let f = c.plain_form in
    let g = c.form.ensures in
    claimed_made a.limits a.table.now a.plain.now a.form.now (sym f.ensures.value ∙ c.in_ok-n.was) f.ensures.res_after g.value g.res_after
