-- The words from a position on.
pub mod Shifted
