-- What the row of a word is written from.
pub mod Operands
