-- The checks of the table with its header, and where they pass those of the recording, the letters and the scratch, of its words.
use Prim.Native.Nat.{ℕ}
use native.Mathlib.Omega.{arith}
use mathlib.Core.Path.{◌≡◌, sym, ap, ◌∙◌}
use mathlib.Core.Bool.{false}
use mathlib.Core.List.{List}
use lib.ListN.{length}
use Rattle.std.specs.Prelude.{Ok}
use Rattle.std.proofs.lemmas.Result.{err_from_is_err_and}
use Rattle.table.specs.Header.{headed_checked}
use Rattle.table.proofs.Header.{accepted-headed}
use Rattle.table.proofs.Accepted.{accepted-well-formed}
use Rattle.heading.proofs.Order.{whole_body}
use Rattle.judge_conditions.proofs.Outcomes.{row-refused, row-accepted}
use Rattle.judge_checks.proofs.checks.check_row.Goals as goal

pub slice_bounds-check_memory-count : goal.slice_bounds-check_memory-count
slice_bounds-check_memory-count c = omega (arith, ap length (accepted-headed false 16383 c.args.table.now (sym c.in_ok-check.ensures)).whole)

pub slice_bounds-check_memory-start : goal.slice_bounds-check_memory-start
slice_bounds-check_memory-start c = omega (arith, ap length (accepted-headed false 16383 c.args.table.now (sym c.in_ok-check.ensures)).whole)

pub check_memory-requires : goal.check_memory-requires
check_memory-requires c =
    let t : List ℕ = c.args.table.now in
    omega (arith, ap length (whole_body t), (accepted-well-formed false 16383 _ (accepted-headed false 16383 t (sym c.in_ok-check.ensures)).words).few)

pub returns-in_err-check : goal.returns-in_err-check
returns-in_err-check c =
    let p = err_from_is_err_and c.from_residual.result c.from_residual.ensures.1 in
    rw (p.1, p.2) (sym (row-refused _ _ _ _ _ _ (sym c.in_err-check.ensures)))

pub returns : goal.returns
returns c =
    let t : List ℕ = c.args.table.now in
    let told : headed_checked false 16383 t ≡ Ok tt = sym c.in_ok-check.ensures in
    rw (whole_body t) at c.check_memory.ensures ∙ sym (row-accepted _ _ _ _ _ told)
