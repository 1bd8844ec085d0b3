-- The states of words as words.
pub mod Stated
