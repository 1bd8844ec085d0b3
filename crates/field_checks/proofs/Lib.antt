-- The laws of checks in a row.
pub mod First
