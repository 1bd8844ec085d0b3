-- The operands of a word.
pub mod Filling
