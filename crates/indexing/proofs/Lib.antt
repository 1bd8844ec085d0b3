-- The laws of adding a word to an index.
pub mod Adding
