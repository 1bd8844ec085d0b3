-- Which words are fixpoints of a kind.
pub mod Picked
