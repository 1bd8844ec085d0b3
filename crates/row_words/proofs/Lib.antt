-- The laws of one word of a row.
pub mod Bits
pub mod Sweep
pub mod Words
pub mod Rows
pub mod Compared
