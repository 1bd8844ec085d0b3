-- Where the start or the move of a state stands.
pub mod Roots
