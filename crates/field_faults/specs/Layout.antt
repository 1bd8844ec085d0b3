-- The checks 8, 5, 6 and 7 of a word number n by the layout of its fields.
use Rattle.std.specs.Prelude.{ℕ, List, ◌++◌}
use Rattle.refusals.specs.Refusals.{Check}
use Rattle.layouts.specs.declared.Layout.{Layout}
use Rattle.layouts.specs.declared.Layout.TheVariants.{Constant, Letter, Unary, Binary}
use Rattle.field_checks.specs.Field.{blank_checks, operand_checks, letter_checks}

-- the checks of a left field l, and then of a right field r
abbrev pub field_checks : Layout → ℕ → ℕ → ℕ → List Check
field_checks Constant l r n = blank_checks l n ++ blank_checks r n
field_checks Letter l r n = blank_checks l n ++ letter_checks r n
field_checks Unary l r n = blank_checks l n ++ operand_checks r n
field_checks Binary l r n = operand_checks l n ++ operand_checks r n
