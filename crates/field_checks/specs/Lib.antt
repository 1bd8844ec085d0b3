-- The checks of one field of a word.
pub mod Field
