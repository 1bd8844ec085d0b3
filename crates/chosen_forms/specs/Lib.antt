-- The slot of a word that is rewritten by whether it is chosen.
pub mod Rewritten
