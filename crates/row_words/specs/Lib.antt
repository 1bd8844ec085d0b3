-- The definitions of rows of truth values, of what is written to one and of what is read off one.
pub mod Row
pub mod Writing
