-- The checks say what is answered, and what becomes of the scratch.
use Prim.Native.Nat.{ℕ, ◌≤◌}
use native.Mathlib.Omega.{arith}
use mathlib.Core.Path.{◌≡◌, refl, sym, ◌∙◌}
use mathlib.Core.List.{List}
use lib.ListN.{length}
use Rattle.std.specs.Prelude.{Ok}
use Rattle.std.proofs.lemmas.Result.{err_from_is_err_and}
use Rattle.heading.proofs.Order.{whole_body}
use Rattle.judging.specs.Judging.{row_outcome, scratch_after}
use Rattle.judging.proofs.Accepted.{accepted-facts, accepted-fillable, accepted-words}
use Rattle.rule_rows.proofs.fill.Goals as goal

pub slice_bounds-fill_rows-count : goal.slice_bounds-fill_rows-count
unfolding row_outcome
slice_bounds-fill_rows-count c =
    let t : List ℕ = c.args.table.now in
    let told : row_outcome t c.args.samples.now c.args.start c.args.driven c.args.scratch.now ≡ Ok tt = sym c.in_ok-check_row.ensures in
    let some : 2 ≤ length t = accepted-words _ _ _ _ _ told in
    omega (arith, some)

pub slice_bounds-fill_rows-start : goal.slice_bounds-fill_rows-start
unfolding row_outcome
slice_bounds-fill_rows-start c =
    let t : List ℕ = c.args.table.now in
    let told : row_outcome t c.args.samples.now c.args.start c.args.driven c.args.scratch.now ≡ Ok tt = sym c.in_ok-check_row.ensures in
    let some : 2 ≤ length t = accepted-words _ _ _ _ _ told in
    omega (arith, some)

pub fill_rows-requires : goal.fill_rows-requires
unfolding row_outcome
fill_rows-requires c =
    let t : List ℕ = c.args.table.now in
    let told : row_outcome t c.args.samples.now c.args.start c.args.driven c.args.scratch.now ≡ Ok tt = sym c.in_ok-check_row.ensures in
    rw (whole_body (t)) (accepted-fillable _ _ _ _ _ (told))

pub returns-in_err-check_row : goal.returns-in_err-check_row
unfolding row_outcome scratch_after
returns-in_err-check_row c =
    let p = err_from_is_err_and c.from_residual.result c.from_residual.ensures.1 in
    rw (p.1, p.2) (record { value = c.in_err-check_row.ensures; scratch_after = refl })

pub returns : goal.returns
unfolding row_outcome scratch_after
returns c =
    let t : List ℕ = c.args.table.now in
    let told : row_outcome t c.args.samples.now c.args.start c.args.driven c.args.scratch.now ≡ Ok tt = sym c.in_ok-check_row.ensures in
    record {
      value = sym told;
      scratch_after = rw (whole_body t) at (c.fill_rows.ensures _ (accepted-facts _ _ _ _ _ told).few_driven);
    }
