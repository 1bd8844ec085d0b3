-- Samples under a mask of the driven bits.
pub mod Masked
