-- The slots of a word's states.
pub mod Slots
