-- The forms of a table's words.
pub mod Forms
