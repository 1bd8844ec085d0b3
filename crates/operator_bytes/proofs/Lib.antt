-- The laws of masked bytes.
pub mod Shifts
