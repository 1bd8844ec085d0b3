-- A text that was read.
pub mod Parsed
