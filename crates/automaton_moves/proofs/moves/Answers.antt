-- The table is refused, or the call is answered of its words.
use borrow.Author.Rules.{rules}
use native.Mathlib.Omega.{arith}
use Prim.Native.Nat.{◌≤◌}
use mathlib.Core.Path.{◌≡◌, sym, ◌∙◌}
use lib.ListN.{length}
use Rattle.std.specs.Prelude.{Ok}
use Rattle.std.proofs.lemmas.Result.{err_from_is_err_and}
use Rattle.refusals.specs.Refusals.{first}
use Rattle.automaton_steps.specs.Steps.{watched_checks}
use Rattle.automaton_moves.proofs.Ends.{table-refused, some, words-accepted, answered-ends}
use Rattle.automaton_moves.proofs.moves.Goals as goal

pub slice_bounds-sized-count : goal.slice_bounds-sized-count
slice_bounds-sized-count c =
    let accepted : first (watched_checks c.args.table.now) ≡ Ok tt = sym c.in_ok-check.ensures in
    let header : 1 ≤ length c.args.table.now = some c.args.table.now accepted in
    omega arith

pub slice_bounds-sized-start : goal.slice_bounds-sized-start
slice_bounds-sized-start c =
    let accepted : first (watched_checks c.args.table.now) ≡ Ok tt = sym c.in_ok-check.ensures in
    let header : 1 ≤ length c.args.table.now = some c.args.table.now accepted in
    omega arith

pub sized-requires : goal.sized-requires
sized-requires c =
    let accepted : first (watched_checks c.args.table.now) ≡ Ok tt = sym c.in_ok-check.ensures in
    words-accepted c.args.table.now accepted

pub returns-in_err-check : goal.returns-in_err-check
returns-in_err-check c =
    let a = c.args in
    let p = err_from_is_err_and c.from_residual.result c.from_residual.ensures.1 in
    let r = table-refused a.state a.sample a.driven a.table.now a.res.now _ (sym c.in_err-check.ensures) in
    record { value = rw (p.1, p.2) r.reply; res_after = r.slice }

pub returns : goal.returns
returns c =
    let accepted : first (watched_checks c.args.table.now) ≡ Ok tt = sym c.in_ok-check.ensures in
    let a = c.args in
    let r = answered-ends a.state a.sample a.driven a.table.now a.res.now accepted c.sized.ensures in
    record { value = r.reply; res_after = r.slice }
