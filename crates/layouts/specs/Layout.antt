-- The four layouts of a word's fields.
use Rattle.table.specs.Node.{Shape, none, constant, letter, unary, binary}
use Rattle.layouts.specs.declared.Layout.{Layout}
use Rattle.layouts.specs.declared.Layout.TheVariants.{Constant, Letter, Unary, Binary}

abbrev pub layout_of : Shape → Layout
layout_of none = Constant
layout_of (constant b) = Constant
layout_of (letter b) = Letter
layout_of (unary o) = Unary
layout_of (binary o) = Binary
