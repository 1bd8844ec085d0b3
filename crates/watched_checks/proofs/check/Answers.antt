-- The checks of the table with its header, and then the class that the header tells.
use borrow.Author.Rules.{rules}
use native.Mathlib.Omega.{arith}
use Prim.Native.Nat.{ℕ, ◌≤◌}
use mathlib.Core.Path.{◌≡◌, sym, ◌∙◌}
use mathlib.Core.Bool.{true}
use mathlib.Core.List.{List}
use lib.ListN.{length}
use Rattle.std.specs.Prelude.{Ok}
use Rattle.std.proofs.lemmas.Result.{err_from_is_err_and}
use Rattle.table.specs.Header.{body, headed_checked}
use Rattle.table.specs.Steps.{is_normal}
use Rattle.table.proofs.Normal.{normal-header}
use Rattle.heading.proofs.Order.{some_word}
use Rattle.automaton_steps.proofs.States.{table-refused, not_delta, watched_accepted}
use Rattle.watched_checks.proofs.check.Goals as goal

pub bounds-table-0 : goal.bounds-table-0
bounds-table-0 c =
    let t : List ℕ = c.args.table.now in
    some_word true 16383 t (sym c.in_ok-check.ensures)

pub returns-then-is_normal : goal.returns-then-is_normal
returns-then-is_normal c =
    let t : List ℕ = c.args.table.now in
    let accepted : headed_checked true 16383 t ≡ Ok tt = sym c.in_ok-check.ensures in
    let normal : c.is_normal.result ≡ is_normal (body t) = c.is_normal.ensures ∙ normal-header 16383 (omega arith) t accepted in
    sym (watched_accepted t accepted (sym normal ∙ c.if-is_normal.true))

pub returns-in_err-check : goal.returns-in_err-check
returns-in_err-check c =
    let p = err_from_is_err_and c.from_residual.result c.from_residual.ensures.1 in
    rw (p.1, p.2) (sym (table-refused _ _ (sym c.in_err-check.ensures)))

pub returns : goal.returns
returns c =
    let t : List ℕ = c.args.table.now in
    let accepted : headed_checked true 16383 t ≡ Ok tt = sym c.in_ok-check.ensures in
    let normal : c.is_normal.result ≡ is_normal (body t) = c.is_normal.ensures ∙ normal-header 16383 (omega arith) t accepted in
    sym (not_delta t accepted (sym normal ∙ c.if-is_normal.false))
