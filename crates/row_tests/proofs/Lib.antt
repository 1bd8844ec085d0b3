-- The goal or the keep at every position.
pub mod Unswept
