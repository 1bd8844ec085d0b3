-- The laws of the bytes of a table.
pub mod Words
