-- The marks of operands after one more word, by the layout of its fields.
use Rattle.std.specs.Prelude.{ℕ, Bool, true, List, set}
use Rattle.layouts.specs.declared.Layout.{Layout}
use Rattle.layouts.specs.declared.Layout.TheVariants.{Constant, Letter, Unary, Binary}

-- the marks with those of the operands of a word, by the layout of its fields l and r
abbrev pub marked_by : Layout → ℕ → ℕ → List Bool → List Bool
marked_by Constant l r marks = marks
marked_by Letter l r marks = marks
marked_by Unary l r marks = set marks r true
marked_by Binary l r marks = set (set marks l true) r true
