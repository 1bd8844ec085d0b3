-- The kind that a form puts for a word of a written kind.
use Rattle.std.specs.Prelude.{ℕ, Bool}
use Rattle.std.specs.Bool.{beq}
use Rattle.logic.specs.Formula.{next, neg, finally, globally, conj, disj, until, weak, release, strong, implies}
use Rattle.logic.specs.NegationNormalForm as form
use Rattle.table.specs.Node.{Shape, none, constant, letter, unary, binary, shape, kind_of}

-- the shape that a wanted form (true) or a denied one (false) puts for a shape; it puts none for a not
abbrev pub signed : Bool → Shape → Shape
signed p none = none
signed p (constant b) = constant (beq p b)
signed p (letter b) = letter (beq p b)
signed p (unary next) = unary next
signed p (unary neg) = unary neg
signed p (unary finally) = binary (form.signed p until)
signed p (unary globally) = binary (form.signed p release)
signed p (binary conj) = binary (form.signed p conj)
signed p (binary disj) = binary (form.signed p disj)
signed p (binary until) = binary (form.signed p until)
signed p (binary weak) = binary (form.signed p weak)
signed p (binary release) = binary (form.signed p release)
signed p (binary strong) = binary (form.signed p strong)
signed p (binary implies) = binary (form.signed p disj)

-- the kind that the form puts for a kind
unfoldable pub signed_kind : Bool → ℕ → ℕ
signed_kind p k = kind_of (signed p (shape k))
