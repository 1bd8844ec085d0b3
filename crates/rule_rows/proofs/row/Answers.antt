-- Accepted, the part is the last row; refused, it is empty, with the refusal's number and place.
use Prim.Native.Nat.{ℕ, ◌+◌, ◌-◌, ◌*◌, ◌≤◌}
use lib.ListN.{length}
use mathlib.Core.Path.{◌≡◌, sym, ap, ◌∙◌}
use native.Mathlib.Omega.{arith}
use mathlib.Core.List.{List}
use Rattle.judging.proofs.LastRow.{words_before, last_small, last_end, last_row_lem, accepted-scratch, accepted_part, refused_part, accepted_at, refused_at}
use Rattle.table_rows.proofs.Parts.{fillable-length}
use Rattle.judging.proofs.Accepted.{accepted-facts, accepted-fillable, accepted-words}
use Rattle.table.specs.Header.{body}
use Rattle.table_rows.specs.Rows.{Fillable}
use Rattle.judging.specs.Judging.{row_outcome}
use Rattle.refusals.specs.Refusals.{outcome_number, outcome_place}
use Rattle.std.specs.Prelude.{Ok}
use Rattle.rule_rows.proofs.row.Goals as goal

pub row_words-words-requires : goal.row_words-words-requires
row_words-words-requires c =
    let t : List ℕ = c.args.table.now in
    let accepted : row_outcome t c.args.samples.now c.args.start c.args.driven c.args.scratch.now ≡ Ok tt = sym c.fill-outcome.ensures.value ∙ c.in-Ok.is in
    let fillable : Fillable (body t) c.args.samples.now c.args.start c.args.scratch.now = accepted-fillable _ _ _ _ _ accepted in
    (fillable).few

pub overflow_sub-from : goal.overflow_sub-from
overflow_sub-from c =
    let t : List ℕ = c.args.table.now in
    let accepted : row_outcome t c.args.samples.now c.args.start c.args.driven c.args.scratch.now ≡ Ok tt = sym c.fill-outcome.ensures.value ∙ c.in-Ok.is in
    omega (arith, accepted-words _ _ _ _ _ (accepted))

pub overflow_mul-from : goal.overflow_mul-from
overflow_mul-from c =
    let t : List ℕ = c.args.table.now in
    let accepted : row_outcome t c.args.samples.now c.args.start c.args.driven c.args.scratch.now ≡ Ok tt = sym c.fill-outcome.ensures.value ∙ c.in-Ok.is in
    let fillable : Fillable (body t) c.args.samples.now c.args.start c.args.scratch.now = accepted-fillable _ _ _ _ _ accepted in
    let small : (length (t) - 2) * c.row_words-words.result + c.row_words-words.result ≤ 1048576 = last_small _ _ _ _ _ _ (fillable) (words_before (t)) c.row_words-words.ensures in
    omega (arith, small)

pub overflow_add-to : goal.overflow_add-to
overflow_add-to c =
    let t : List ℕ = c.args.table.now in
    let accepted : row_outcome t c.args.samples.now c.args.start c.args.driven c.args.scratch.now ≡ Ok tt = sym c.fill-outcome.ensures.value ∙ c.in-Ok.is in
    let fillable : Fillable (body t) c.args.samples.now c.args.start c.args.scratch.now = accepted-fillable _ _ _ _ _ accepted in
    let small : (length (t) - 2) * c.row_words-words.result + c.row_words-words.result ≤ 1048576 = last_small _ _ _ _ _ _ (fillable) (words_before (t)) c.row_words-words.ensures in
    omega (arith, small)

pub offset_bounds-scratch-from : goal.offset_bounds-scratch-from
offset_bounds-scratch-from c =
    let t : List ℕ = c.args.table.now in
    let accepted : row_outcome t c.args.samples.now c.args.start c.args.driven c.args.scratch.now ≡ Ok tt = sym c.fill-outcome.ensures.value ∙ c.in-Ok.is in
    let fillable : Fillable (body t) c.args.samples.now c.args.start c.args.scratch.now = accepted-fillable _ _ _ _ _ accepted in
    let small : (length (t) - 2) * c.row_words-words.result + c.row_words-words.result ≤ 1048576 = last_small _ _ _ _ _ _ (fillable) (words_before (t)) c.row_words-words.ensures in
    omega (arith, small)

pub slice_bounds-scratch-end-in-Ok : goal.slice_bounds-scratch-end-in-Ok
slice_bounds-scratch-end-in-Ok c =
    let t : List ℕ = c.args.table.now in
    let accepted : row_outcome t c.args.samples.now c.args.start c.args.driven c.args.scratch.now ≡ Ok tt = sym c.fill-outcome.ensures.value ∙ c.in-Ok.is in
    let fillable : Fillable (body t) c.args.samples.now c.args.start c.args.scratch.now = accepted-fillable _ _ _ _ _ accepted in
    let still-fillable : Fillable (body t) c.args.samples.now c.args.start c.fill-outcome.new.scratch = fillable-length _ _ c.fill-outcome.auto.scratch fillable in
    last_end _ _ _ _ _ _ (still-fillable) (words_before (t)) c.row_words-words.ensures

pub returns-in-Err : goal.returns-in-Err
returns-in-Err c =
    let told = sym c.fill-outcome.ensures.value ∙ c.in-Err.is in
    record {
      result_value = refused_part _ _ _ _ told;
      ref_ptr_value = refused_at _ _ _ told;
      number_after = c.reply.ensures.value ∙ ap outcome_number c.fill-outcome.ensures.value;
      place_after = c.reply.ensures.place_after ∙ ap outcome_place c.fill-outcome.ensures.value;
    }

pub returns-in-Ok : goal.returns-in-Ok
returns-in-Ok c =
    let t : List ℕ = c.args.table.now in
    let accepted : row_outcome t c.args.samples.now c.args.start c.args.driven c.args.scratch.now ≡ Ok tt = sym c.fill-outcome.ensures.value ∙ c.in-Ok.is in
    let fillable : Fillable (body t) c.args.samples.now c.args.start c.args.scratch.now = accepted-fillable _ _ _ _ _ accepted in
    let still-fillable : Fillable (body t) c.args.samples.now c.args.start c.fill-outcome.new.scratch = fillable-length _ _ c.fill-outcome.auto.scratch fillable in
    let told = accepted in
    let rows = c.fill-outcome.ensures.scratch_after ∙ sym (accepted-scratch _ _ _ _ _ c.in-Ok.is) in
    record {
      result_value = last_row_lem _ _ _ _ _ _ still-fillable (words_before t) c.row_words-words.ensures _ (accepted-facts _ _ _ _ _ told).few_driven _ rows ∙ accepted_part _ _ _ _ told;
      ref_ptr_value = accepted_at _ _ _ told c.row_words-words.ensures;
      number_after = c.reply.ensures.value ∙ ap outcome_number (c.fill-outcome.ensures.value);
      place_after = c.reply.ensures.place_after ∙ ap outcome_place c.fill-outcome.ensures.value;
    }
