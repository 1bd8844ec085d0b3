-- Each turn puts one row more in its place.
use Prim.Native.Nat.{◌≤◌}
use lib.ListN.{length, length-take}
use lib.Seq.{length_front}
use mathlib.Core.Path.{refl, ◌∙◌}
use native.Mathlib.Omega.{arith}
use Rattle.table_rows.proofs.Rows.{rows_then_none}
use Rattle.table_rows.proofs.Parts.{fillable-length}
use Rattle.row_filling.proofs.WordRow.{rows_stand, rows_next, rows_all}
use Rattle.row_filling.proofs.fill_rows.Goals as goal

pub row_words-words-requires : goal.row_words-words-requires
row_words-words-requires c = c.requires.few

pub each-init : goal.each-init
each-init c = (λ k few. rows_then_none _ _, refl, refl)

pub slice_bounds-a-end : goal.slice_bounds-a-end
slice_bounds-a-end c =
    omega (arith, c.row_words-words.ensures, c.requires.few)

pub slice_bounds-fill_row-end : goal.slice_bounds-fill_row-end
slice_bounds-fill_row-end c =
    simp length-take (omega (arith, c.row_words-words.ensures, c.requires.few))

pub slice_bounds-b-end : goal.slice_bounds-b-end
slice_bounds-b-end c =
    omega (arith, c.row_words-words.ensures, c.requires.few)

pub slice_bounds-fill_row-end-in-each : goal.slice_bounds-fill_row-end-in-each
slice_bounds-fill_row-end-in-each c =
    simp length-take (omega (arith, c.row_words-words.ensures, c.requires.few))

pub fill_row-requires : goal.fill_row-requires
fill_row-requires c =
    let few : c.row_words-words.result ≤ 64 = omega (arith, c.row_words-words.ensures, c.requires.few) in
    let facts = c.requires in
    let wide = c.row_words-words.ensures in
    record {
      j_in_bounds = (c.each-test.true, fillable-length _ _ c.each.auto.scratch facts);
      row_for = (
        record { some = facts.some; few = facts.few; size = simp length-take (omega (arith, few, wide)) },
        record { some = facts.some; few = facts.few; size = simp length-take (omega (arith, few, wide)) },
      );
    }

pub each-preserved : goal.each-preserved
each-preserved c =
    let inv = c.each.invariant in
    let h = c.each-test.true in
    let below : c.each.j ≤ length c.args.table.now = omega arith in (
      λ k few. rows_next _ _ _ _ _ below (inv.0 k few) _ h (c.fill_row.ensures k few (rows_stand _ _ _ _ _ below (inv.0 k few))),
      length_front c.each.a c.fill_row.new.a c.row_words-words.result c.fill_row.auto.a ∙ inv.1,
      length_front c.each.b c.fill_row.new.b c.row_words-words.result c.fill_row.auto.b ∙ inv.2,
    )

pub shape_of-scratch : goal.shape_of-scratch
shape_of-scratch c = c.each.auto.scratch

pub returns : goal.returns
returns c = λ k few. rows_all _ _ _ _ _ c.each.auto.j-end (c.each.invariant.0 k few) c.each-test.false
