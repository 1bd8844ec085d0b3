-- The table is refused, or its states are written where they fit.
use borrow.Author.Rules.{rules}
use native.Mathlib.Omega.{arith}
use Prim.Native.Nat.{◌≤◌}
use mathlib.Core.Path.{◌≡◌, sym, ◌∙◌}
use lib.ListN.{length}
use Rattle.std.specs.Prelude.{Ok}
use Rattle.std.proofs.lemmas.Result.{err_from_is_err_and}
use Rattle.refusals.specs.Refusals.{first}
use Rattle.automaton_steps.specs.Steps.{watched_checks}
use Rattle.automaton_steps.proofs.States.{states-refused}
use Rattle.automaton_states.proofs.Ends.{some, words-accepted, listed-ends}
use Rattle.automaton_states.proofs.states.Goals as goal

pub slice_bounds-list-count : goal.slice_bounds-list-count
slice_bounds-list-count c =
    let accepted : first (watched_checks c.args.table.now) ≡ Ok tt = sym c.in_ok-check.ensures in
    let header : 1 ≤ length c.args.table.now = some c.args.table.now c.args.res.now accepted in
    omega arith

pub slice_bounds-list-start : goal.slice_bounds-list-start
slice_bounds-list-start c =
    let accepted : first (watched_checks c.args.table.now) ≡ Ok tt = sym c.in_ok-check.ensures in
    let header : 1 ≤ length c.args.table.now = some c.args.table.now c.args.res.now accepted in
    omega arith

pub list-requires : goal.list-requires
list-requires c =
    let accepted : first (watched_checks c.args.table.now) ≡ Ok tt = sym c.in_ok-check.ensures in
    words-accepted c.args.table.now c.args.res.now accepted

pub returns-in_err-check : goal.returns-in_err-check
returns-in_err-check c =
    let a = c.args in
    let p = err_from_is_err_and c.from_residual.result c.from_residual.ensures.1 in
    let r = states-refused a.table.now a.res.now _ (sym c.in_err-check.ensures) in
    record { value = rw (p.1, p.2) r.reply; res_after = r.slice }

pub returns : goal.returns
returns c =
    let accepted : first (watched_checks c.args.table.now) ≡ Ok tt = sym c.in_ok-check.ensures in
    let a = c.args in
    let r = listed-ends a.table.now a.res.now accepted c.list.ensures in
    record { value = r.reply; res_after = r.slice }
