-- The rules of folding by the shapes of a word and of its operands.
use Rattle.std.specs.Prelude.{Bool, Option, Some, None}
use Rattle.transforms.specs.Folding as folding
use Rattle.transforms.specs.Folding.{on_left, on_right, on_operand, or_else}
use Rattle.table.specs.Node.{Shape, none, constant, letter, unary, binary}
use Rattle.fold_rules.specs.declared.Side.{Side}
use Rattle.fold_rules.specs.declared.Side.TheVariants.{Left, Right}

-- a constant on the left, and on the right, where a word with one operand has it
abbrev pub left_rule : Shape → Bool → folding.Fold
left_rule none c = folding.stands
left_rule (constant b) c = folding.stands
left_rule (letter b) c = folding.stands
left_rule (unary o) c = folding.stands
left_rule (binary o) c = on_left o c

abbrev pub right_rule : Shape → Bool → folding.Fold
right_rule none c = folding.stands
right_rule (constant b) c = folding.stands
right_rule (letter b) c = folding.stands
right_rule (unary o) c = on_operand o c
right_rule (binary o) c = on_right o c

-- what an operand makes of the word: only constants do
abbrev pub constantly : (Bool → folding.Fold) → Shape → folding.Fold
constantly f none = folding.stands
constantly f (constant c) = f c
constantly f (letter b) = folding.stands
constantly f (unary o) = folding.stands
constantly f (binary o) = folding.stands

-- a word over its left and its right operand
abbrev pub rule_of : Shape → Shape → Shape → folding.Fold
rule_of s a b = or_else (constantly (left_rule s) a) (constantly (right_rule s) b)

abbrev pub answer : folding.Fold → Option Side
answer folding.left = Some Left
answer folding.right = Some Right
answer folding.stands = None
