-- The marks of operands after one more word.
use Rattle.std.specs.Prelude.{ℕ, Bool, List}
use Rattle.table.specs.Node.{kind, left, right, shape}
use Rattle.layouts.specs.Layout.{layout_of}
use Rattle.field_faults.specs.Marks.{marked_by}

abbrev pub marked_with : ℕ → List Bool → List Bool
marked_with w marks = marked_by (layout_of (shape (kind w))) (left w) (right w) marks
