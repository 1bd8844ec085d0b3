-- Each operand is a row's part of the scratch.
use mathlib.Core.Path.{◌∙◌}
use native.Mathlib.Omega.{arith}
use Rattle.operand_rows.proofs.Parts.{standing_end, part_row}
use Rattle.operand_rows.proofs.load.Goals as goal

pub overflow_mul-i : goal.overflow_mul-i
overflow_mul-i c = omega (arith, standing_end c.requires.row_for.size c.requires.standing.0, c.well_formed)

pub overflow_mul-j : goal.overflow_mul-j
overflow_mul-j c = omega (arith, standing_end c.requires.row_for.size c.requires.standing.1, c.well_formed)

pub overflow_add-m : goal.overflow_add-m
overflow_add-m c = omega (arith, standing_end c.requires.row_for.size c.requires.standing.0, c.well_formed)

pub overflow_add-n : goal.overflow_add-n
overflow_add-n c = omega (arith, standing_end c.requires.row_for.size c.requires.standing.1, c.well_formed)

pub offset_bounds-scratch-i : goal.offset_bounds-scratch-i
offset_bounds-scratch-i c = omega (arith, standing_end c.requires.row_for.size c.requires.standing.0, c.well_formed)

pub slice_bounds-write_connective-end : goal.slice_bounds-write_connective-end
slice_bounds-write_connective-end c = standing_end c.requires.row_for.size c.requires.standing.0

pub offset_bounds-scratch-j : goal.offset_bounds-scratch-j
offset_bounds-scratch-j c = omega (arith, standing_end c.requires.row_for.size c.requires.standing.1, c.well_formed)

pub slice_bounds-write_connective-end-2 : goal.slice_bounds-write_connective-end-2
slice_bounds-write_connective-end-2 c = standing_end c.requires.row_for.size c.requires.standing.1

pub returns : goal.returns
returns c f g ef eg =
    let wide = c.requires.row_for.size in
    c.write_connective.ensures f g (part_row _ _ wide ∙ ef) (part_row _ _ wide ∙ eg)
