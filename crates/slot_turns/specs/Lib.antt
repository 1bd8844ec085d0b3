-- What numbering needs of a slot next.
pub mod Turn
