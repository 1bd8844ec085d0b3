-- The rows that the word reads are prepared, and its own row is put into its part.
use mathlib.Core.Path.{ap, sym, ◌∙◌}
use native.Mathlib.Omega.{arith}
use Rattle.table.specs.Node.{shape}
use Rattle.operators.specs.Looped.{meaning}
use Rattle.table_rows.proofs.Parts.{part_small, part_end, part_for}
use Rattle.row_filling.proofs.WordRow.{start_inside, standing, letter_in, row-filled}
use Rattle.row_filling.proofs.fill_row.Goals as goal

pub prepare-requires : goal.prepare-requires
prepare-requires c =
    record { row_for = c.requires.row_for; standing = standing _ _ _ _ _ _ c.requires.j_in_bounds.0 c.requires.j_in_bounds.1 c.row_words-words.ensures c.of_kind-op.result (c.of_kind-op.ensures ∙ ap (λ k. meaning (shape k)) c.kind.ensures) _ _ c.first_operand.ensures c.right-right.ensures }

pub overflow_mul-from : goal.overflow_mul-from
overflow_mul-from c =
    omega (arith, part_small _ _ _ _ _ _ c.requires.j_in_bounds.0 c.requires.j_in_bounds.1 c.row_words-words.ensures)

pub overflow_add-to : goal.overflow_add-to
overflow_add-to c =
    omega (arith, part_small _ _ _ _ _ _ c.requires.j_in_bounds.0 c.requires.j_in_bounds.1 c.row_words-words.ensures)

pub offset_bounds-scratch-from : goal.offset_bounds-scratch-from
offset_bounds-scratch-from c =
    omega (arith, part_small _ _ _ _ _ _ c.requires.j_in_bounds.0 c.requires.j_in_bounds.1 c.row_words-words.ensures)

pub slice_bounds-write_word-end : goal.slice_bounds-write_word-end
slice_bounds-write_word-end c = part_end _ _ _ _ _ _ c.requires.j_in_bounds.0 c.requires.j_in_bounds.1 c.row_words-words.ensures

pub write_word-requires : goal.write_word-requires
write_word-requires c =
    let part = part_for _ _ _ _ _ _ c.requires.j_in_bounds.0 c.requires.j_in_bounds.1 c.row_words-words.ensures in
    record {
      row_for = part;
      a_len = (
        c.prepare.auto.a ∙ c.requires.row_for.0.size ∙ sym part.size,
        c.prepare.auto.b ∙ c.requires.row_for.1.size ∙ sym part.size,
        start_inside _ _ _ _ _ _ c.requires.j_in_bounds.0 c.requires.j_in_bounds.1 c.row_words-words.ensures,
      );
      le_letter = letter_in _ _ _ _ _ _ c.requires.j_in_bounds.0 c.requires.j_in_bounds.1 c.row_words-words.ensures c.of_kind-op.result (c.of_kind-op.ensures ∙ ap (λ k. meaning (shape k)) c.kind.ensures) _ _ c.first_operand.ensures c.right-right.ensures;
    }

pub returns : goal.returns
returns c =
    row-filled _ _ _ _ _ _ c.requires.j_in_bounds.0 c.requires.j_in_bounds.1 c.row_words-words.ensures c.of_kind-op.result (c.of_kind-op.ensures ∙ ap (λ k. meaning (shape k)) c.kind.ensures) _ _ c.first_operand.ensures c.right-right.ensures c.prepare.new.a c.prepare.new.b _
    c.prepare.ensures c.write_word.ensures
