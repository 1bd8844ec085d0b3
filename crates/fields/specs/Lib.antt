-- The marks of a word's operands.
pub mod Marks
