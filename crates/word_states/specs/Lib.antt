-- The states of a word.
pub mod States
