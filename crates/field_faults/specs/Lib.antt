-- What the fields of a word are checked for by their layout, and the marks of its operands.
pub mod Layout
pub mod Marks
