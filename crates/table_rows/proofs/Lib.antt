-- The laws of rows in the scratch, and the part of one row.
pub mod Rows
pub mod Parts
