-- What a plain kind stands for, as far as class bytes go.
use Rattle.std.specs.Prelude.{ℕ, ◌≡◌, Bool, true, false}
use Rattle.std.specs.Int.Bits.{bit_and}
use Rattle.logic.specs.Formula.{Formula}
use Rattle.logic.specs.ClassByte.{class_byte}
use Rattle.logic.specs.ClassStep.{atomic_byte, next_byte, least_byte, greatest_byte}
use Rattle.table.specs.Node.{Shape, left_field, right_field}
use Rattle.table.specs.Table.{formula_by}
use Rattle.table.specs.Checks.{is_operand}
use Rattle.plain_kinds.specs.declared.Operator.{Operator}
use Rattle.plain_kinds.specs.declared.Operator.TheVariants.{Boolean, Least, Greatest}
use Rattle.plain_kinds.specs.declared.PlainKind.{PlainKind}
use Rattle.plain_kinds.specs.declared.PlainKind.TheVariants.{Atomic, Next, Binary}

abbrev pub operator_byte : Operator → ℕ → ℕ → ℕ
operator_byte Boolean a b = bit_and a b
operator_byte Least a b = least_byte a b
operator_byte Greatest a b = greatest_byte a b

-- the byte from those of the left and the right operand
abbrev pub kind_byte : PlainKind → ℕ → ℕ → ℕ
kind_byte Atomic a b = atomic_byte
kind_byte Next a b = next_byte b
kind_byte (Binary o) a b = operator_byte o a b

abbrev pub takes_left : PlainKind → Bool
takes_left Atomic = false
takes_left Next = false
takes_left (Binary o) = true

abbrev pub takes_right : PlainKind → Bool
takes_right Atomic = false
takes_right Next = true
takes_right (Binary o) = true

-- a shape has the operands and the byte of y
pub record Stands (s : Shape) (y : PlainKind) : Type 0 where
  pub left : is_operand (left_field s) ≡ takes_left y
  pub right : is_operand (right_field s) ≡ takes_right y
  pub byte : (n : ℕ) (a b : Formula) → class_byte (formula_by s n a b) ≡ kind_byte y (class_byte a) (class_byte b)
