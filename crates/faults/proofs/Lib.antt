-- The laws of checks in a row, and of marks.
pub mod First
pub mod Marking
