use Prim.Native.Nat.{ℕ, ◌≤◌}
use native.Mathlib.Omega.{arith}
use mathlib.Core.Path.{◌≡◌, sym, subst, ◌∙◌}
use mathlib.Core.Bool.{true}
use mathlib.Core.List.{List}
use Rattle.std.specs.Prelude.{Ok}
use Rattle.std.proofs.lemmas.Result.{err_from_is_err_and}
use Rattle.table.specs.declared.settings.Limits.{Limits}
use Rattle.table.specs.Limits.{is_permitted, plain_limit}
use Rattle.table.specs.Header.{body, headed_checked}
use Rattle.table.specs.Steps.{is_normal}
use Rattle.table.proofs.Stated.{permitted}
use Rattle.table.proofs.Normal.{normal-header}
use Rattle.heading.proofs.Order.{whole_body, some_word}
use Rattle.rewritten_form.specs.Forms.{Rewritable}
use Rattle.normal_form.proofs.Ends.{outside, table-refused, own, rewritable, rewritten}
use Rattle.normal_form.proofs.form.Goals as goal

pub returns-then-not-permitted : goal.returns-then-not-permitted
returns-then-not-permitted c =
    let a = c.args in
    let r = outside a.limits a.table.now a.res.now (sym c.permitted.ensures ∙ c.if-not-permitted.true) in
    record { value = r.reply; res_after = r.slice }

pub overflow_mul-limits : goal.overflow_mul-limits
overflow_mul-limits c =
    let l : Limits = c.args.limits in
    let few : l.written ≤ 256 = (permitted l (sym c.permitted.ensures ∙ c.if-not-permitted.false)).written in
    omega (arith, few)

pub overflow_add-limits : goal.overflow_add-limits
overflow_add-limits c =
    let l : Limits = c.args.limits in
    let few : l.written ≤ 256 = (permitted l (sym c.permitted.ensures ∙ c.if-not-permitted.false)).written in
    omega (arith, few)

pub bounds-table-0 : goal.bounds-table-0
bounds-table-0 c = some_word true (plain_limit c.args.limits) c.args.table.now (sym c.in_ok-check.ensures)

pub returns-then-is_normal : goal.returns-then-is_normal
returns-then-is_normal c =
    let l : Limits = c.args.limits in
    let t : List ℕ = c.args.table.now in
    let within : is_permitted l ≡ true = sym c.permitted.ensures ∙ c.if-not-permitted.false in
    let few : l.written ≤ 256 = (permitted l within).written in
    let accepted : headed_checked true (plain_limit l) t ≡ Ok tt = sym c.in_ok-check.ensures in
    let normal : c.is_normal.result ≡ is_normal (body t) = c.is_normal.ensures ∙ normal-header (plain_limit l) (omega (arith, few)) t accepted in
    let q = own l t c.args.res.now within accepted (sym normal ∙ c.if-is_normal.true) in
    record { value = q.reply; res_after = q.slice }

pub slice_bounds-rewrite-count : goal.slice_bounds-rewrite-count
slice_bounds-rewrite-count c = omega (arith, some_word true (plain_limit c.args.limits) c.args.table.now (sym c.in_ok-check.ensures))

pub slice_bounds-rewrite-start : goal.slice_bounds-rewrite-start
slice_bounds-rewrite-start c = omega (arith, some_word true (plain_limit c.args.limits) c.args.table.now (sym c.in_ok-check.ensures))

pub rewrite-requires : goal.rewrite-requires
rewrite-requires c =
    let l : Limits = c.args.limits in
    let t : List ℕ = c.args.table.now in
    let within : is_permitted l ≡ true = sym c.permitted.ensures ∙ c.if-not-permitted.false in
    let few : l.written ≤ 256 = (permitted l within).written in
    let accepted : headed_checked true (plain_limit l) t ≡ Ok tt = sym c.in_ok-check.ensures in
    let normal : c.is_normal.result ≡ is_normal (body t) = c.is_normal.ensures ∙ normal-header (plain_limit l) (omega (arith, few)) t accepted in
    subst (Rewritable l) (sym (whole_body t)) (rewritable l t within accepted (sym normal ∙ c.if-is_normal.false))

pub returns-in_err-check : goal.returns-in_err-check
returns-in_err-check c =
    let l : Limits = c.args.limits in
    let within : is_permitted l ≡ true = sym c.permitted.ensures ∙ c.if-not-permitted.false in
    let q = table-refused l c.args.table.now c.args.res.now within _ (sym c.in_err-check.ensures) in
    let p = err_from_is_err_and c.from_residual.result c.from_residual.ensures.1 in
    rw (p.1, p.2) (record { value = q.reply; res_after = q.slice })

pub returns : goal.returns
returns c =
    let l : Limits = c.args.limits in
    let t : List ℕ = c.args.table.now in
    let accepted : headed_checked true (plain_limit l) t ≡ Ok tt = sym c.in_ok-check.ensures in
    let q = rewritten l t accepted (rw (whole_body t) at c.rewrite.ensures) in
    record { value = q.reply; res_after = q.slice }
