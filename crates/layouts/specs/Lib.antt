-- What the two fields of a word are for.
pub mod Layout
