-- The words of a choice, chosen one after the other.
pub mod Choosing
