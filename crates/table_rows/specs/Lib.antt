-- Rows in the scratch.
pub mod Rows
