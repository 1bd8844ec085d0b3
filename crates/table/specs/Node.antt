-- A word of a table (a node): the kind in the top 4 bits, the left field in the next 14, the right field in the low 14.
use Rattle.std.specs.Prelude.{ℕ, ◌+◌, ◌*◌, ◌/◌, ◌%◌, ◌^◌, Bool, true, false, cond, List, [], ◌∷◌, get_or}
use Rattle.logic.specs.Formula.{Unary, Binary, next, neg, finally, globally, conj, disj, until, weak, release, strong, implies}

unfoldable pub kind : ℕ → ℕ
kind w = w / 2 ^ 28

unfoldable pub left : ℕ → ℕ
left w = w / 2 ^ 14 % 2 ^ 14

unfoldable pub right : ℕ → ℕ
right w = w % 2 ^ 14

unfoldable pub pack : ℕ → ℕ → ℕ → ℕ
pack k l r = k * 2 ^ 28 + l * 2 ^ 14 + r

-- what a kind stands for
pub data Shape : Type 0 where
  none : Shape
  constant letter : Bool → Shape
  unary : Unary → Shape
  binary : Binary → Shape

-- the sixteen kinds in order, kind 0 first, which stands for nothing
abbrev pub shapes : List Shape
shapes =
    none
    ∷ constant false ∷ constant true ∷ letter true ∷ letter false
    ∷ binary conj ∷ binary disj ∷ unary next
    ∷ binary until ∷ binary weak ∷ binary release ∷ binary strong
    ∷ unary neg ∷ unary finally ∷ unary globally ∷ binary implies
    ∷ []

unfoldable pub shape : ℕ → Shape
shape k = get_or shapes k none

abbrev pub unary_kind : Unary → ℕ
unary_kind next = 7
unary_kind neg = 12
unary_kind finally = 13
unary_kind globally = 14

abbrev pub binary_kind : Binary → ℕ
binary_kind conj = 5
binary_kind disj = 6
binary_kind until = 8
binary_kind weak = 9
binary_kind release = 10
binary_kind strong = 11
binary_kind implies = 15

-- the kind of each shape, by which `shape` is undone
abbrev pub kind_of : Shape → ℕ
kind_of none = 0
kind_of (constant b) = cond b 2 1
kind_of (letter b) = cond b 3 4
kind_of (unary o) = unary_kind o
kind_of (binary o) = binary_kind o

-- what a field holds
pub data Field : Type 0 where
  blank proposition operand : Field

abbrev pub left_field : Shape → Field
left_field none = blank
left_field (constant b) = blank
left_field (letter b) = blank
left_field (unary o) = blank
left_field (binary o) = operand

abbrev pub right_field : Shape → Field
right_field none = blank
right_field (constant b) = blank
right_field (letter b) = proposition
right_field (unary o) = operand
right_field (binary o) = operand
