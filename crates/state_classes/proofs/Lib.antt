-- The laws of the classes of a word's states.
pub mod Smallest
