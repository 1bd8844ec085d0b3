-- The states of a word, by the bits of its class byte.
pub mod Smallest
pub mod Words
pub mod Starts
