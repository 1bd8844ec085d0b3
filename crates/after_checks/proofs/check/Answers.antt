-- The checks of the table with its header, and where they pass those of the sample, of its words.
use borrow.Author.Rules.{rules}
use native.Mathlib.Omega.{arith}
use Prim.Native.Nat.{ℕ, ◌≤◌}
use mathlib.Core.Path.{◌≡◌, sym, ◌∙◌}
use mathlib.Core.Bool.{true}
use mathlib.Core.List.{List}
use lib.ListN.{length}
use Rattle.std.specs.Prelude.{Ok}
use Rattle.std.proofs.lemmas.Result.{err_from_is_err_and}
use Rattle.table.specs.Header.{headed_checked}
use Rattle.table.proofs.AfterStep.{table-refused, table-accepted}
use Rattle.heading.proofs.Order.{whole_body, some_word}
use Rattle.after_checks.proofs.check.Goals as goal

pub slice_bounds-check_sample-count : goal.slice_bounds-check_sample-count
slice_bounds-check_sample-count c =
    let t : List ℕ = c.args.table.now in
    let some : 1 ≤ length t = some_word true 16383 t (sym c.in_ok-check.ensures) in
    omega arith

pub slice_bounds-check_sample-start : goal.slice_bounds-check_sample-start
slice_bounds-check_sample-start c =
    let t : List ℕ = c.args.table.now in
    let some : 1 ≤ length t = some_word true 16383 t (sym c.in_ok-check.ensures) in
    omega arith

pub returns-in_err-check : goal.returns-in_err-check
returns-in_err-check c =
    let p = err_from_is_err_and c.from_residual.result c.from_residual.ensures.1 in
    rw (p.1, p.2) (sym (table-refused 0 _ _ _ (sym c.in_err-check.ensures)))

pub returns : goal.returns
returns c =
    let t : List ℕ = c.args.table.now in
    let told : headed_checked true 16383 t ≡ Ok tt = sym c.in_ok-check.ensures in
    rw (whole_body t) at c.check_sample.ensures ∙ sym (table-accepted 0 _ _ told)
