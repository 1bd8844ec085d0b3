-- Positions packed into a word.
pub mod Packed
