-- The table or the sample is refused, or what remains of the rule is made.
use borrow.Author.Rules.{rules}
use native.Mathlib.Omega.{arith}
use mathlib.Core.Path.{◌≡◌, sym, ◌∙◌}
use Prim.Native.Nat.{◌≤◌}
use lib.ListN.{length}
use Rattle.std.proofs.lemmas.Result.{err_from_is_err_and}
use Rattle.std.specs.Prelude.{Ok}
use Rattle.refusals.specs.Refusals.{first}
use Rattle.table.specs.Frame.{after_step}
use Rattle.after.proofs.Ends.{some, words-accepted, refused, made}
use Rattle.after.proofs.step.Goals as goal

pub slice_bounds-answer-count : goal.slice_bounds-answer-count
slice_bounds-answer-count c =
    let accepted : first ((after_step c.args.sample c.args.driven).checks c.args.table.now) ≡ Ok tt = sym c.in_ok-check.ensures in
    let header : 1 ≤ length c.args.table.now = some c.args.sample c.args.driven c.args.table.now c.args.res.now accepted in
    omega arith

pub slice_bounds-answer-start : goal.slice_bounds-answer-start
slice_bounds-answer-start c =
    let accepted : first ((after_step c.args.sample c.args.driven).checks c.args.table.now) ≡ Ok tt = sym c.in_ok-check.ensures in
    let header : 1 ≤ length c.args.table.now = some c.args.sample c.args.driven c.args.table.now c.args.res.now accepted in
    omega arith

pub answer-requires : goal.answer-requires
answer-requires c =
    let accepted : first ((after_step c.args.sample c.args.driven).checks c.args.table.now) ≡ Ok tt = sym c.in_ok-check.ensures in
    let a = c.args in
    words-accepted a.sample a.driven a.table.now a.res.now accepted

pub returns-in_err-check : goal.returns-in_err-check
returns-in_err-check c =
    let p = err_from_is_err_and c.from_residual.result c.from_residual.ensures.1 in
    let a = c.args in
    let r = refused a.sample a.driven a.table.now a.res.now _ (sym c.in_err-check.ensures) in
    record { value = rw (p.1, p.2) r.reply; res_after = r.slice }

pub returns : goal.returns
returns c =
    let accepted : first ((after_step c.args.sample c.args.driven).checks c.args.table.now) ≡ Ok tt = sym c.in_ok-check.ensures in
    let a = c.args in
    let r = made a.sample a.driven a.table.now a.res.now accepted c.answer.ensures in
    record { value = r.reply; res_after = r.slice }
