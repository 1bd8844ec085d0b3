-- A refusal is handed on with the tally; else the reply is that of the accepted judgement.
use Prim.Native.Nat.{ℕ, ◌≤◌}
use native.Mathlib.Omega.{arith}
use mathlib.Core.Path.{◌≡◌, sym, ◌∙◌}
use mathlib.Core.List.{List}
use lib.ListN.{length}
use Rattle.std.specs.Prelude.{Ok}
use Rattle.heading.proofs.Order.{whole_body}
use Rattle.judging.proofs.LastRow.{judge_rows, judge_desk, refused-reply, accepted-reply, refused-scratch, accepted-scratch}
use Rattle.judging.proofs.Accepted.{accepted-facts, accepted-fillable, accepted-words}
use Rattle.judging.specs.Judging.{row_outcome, judge_outcome}
use Rattle.evaluation.proofs.judge.Goals as goal

pub slice_bounds-judge_accepted-count : goal.slice_bounds-judge_accepted-count
unfolding judge_outcome
slice_bounds-judge_accepted-count c =
    let t : List ℕ = c.args.table.now in
    let told : judge_outcome t c.args.samples.now c.args.start c.args.driven c.args.scratch.now c.args.desk ≡ Ok tt = sym c.in-Ok.ensures in
    let rows : row_outcome t c.args.samples.now c.args.start c.args.driven c.args.scratch.now ≡ Ok tt = judge_rows _ _ _ _ _ _ told in
    let some : 2 ≤ length t = accepted-words _ _ _ _ _ rows in
    omega (arith, some)

pub slice_bounds-judge_accepted-start : goal.slice_bounds-judge_accepted-start
unfolding judge_outcome
slice_bounds-judge_accepted-start c =
    let t : List ℕ = c.args.table.now in
    let told : judge_outcome t c.args.samples.now c.args.start c.args.driven c.args.scratch.now c.args.desk ≡ Ok tt = sym c.in-Ok.ensures in
    let rows : row_outcome t c.args.samples.now c.args.start c.args.driven c.args.scratch.now ≡ Ok tt = judge_rows _ _ _ _ _ _ told in
    let some : 2 ≤ length t = accepted-words _ _ _ _ _ rows in
    omega (arith, some)

pub judge_accepted-requires : goal.judge_accepted-requires
unfolding judge_outcome
judge_accepted-requires c =
    let t : List ℕ = c.args.table.now in
    let told : judge_outcome t c.args.samples.now c.args.start c.args.driven c.args.scratch.now c.args.desk ≡ Ok tt = sym c.in-Ok.ensures in
    let rows : row_outcome t c.args.samples.now c.args.start c.args.driven c.args.scratch.now ≡ Ok tt = judge_rows _ _ _ _ _ _ told in
    rw (whole_body (t)) (accepted-fillable _ _ _ _ _ (rows))

pub returns-in-Err : goal.returns-in-Err
unfolding judge_outcome
returns-in-Err c =
    let told = sym c.in-Err.ensures in
    record { value = refused-reply _ _ _ _ _ _ _ told; scratch_after = refused-scratch _ _ _ _ _ told }

pub returns-in-Ok : goal.returns-in-Ok
unfolding judge_outcome
returns-in-Ok c =
    let t : List ℕ = c.args.table.now in
    let told : judge_outcome t c.args.samples.now c.args.start c.args.driven c.args.scratch.now c.args.desk ≡ Ok tt = sym c.in-Ok.ensures in
    let rows : row_outcome t c.args.samples.now c.args.start c.args.driven c.args.scratch.now ≡ Ok tt = judge_rows _ _ _ _ _ _ told in
    let few = (accepted-facts _ _ _ _ _ (rows)).few_driven in
    record {
      value = rw (whole_body t) at (c.judge_accepted.ensures.by_index _ few (judge_desk _ _ _ _ _ _ told).1) ∙ accepted-reply _ _ _ _ _ _ told;
      scratch_after = rw (whole_body t) at (c.judge_accepted.ensures.by_index_2 _ few) ∙ accepted-scratch _ _ _ _ _ told;
    }
