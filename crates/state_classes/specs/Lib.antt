-- The classes of a word's states, and what is kept of words.
pub mod Classes
pub mod Kept
