-- The slots of a word.
pub mod WordSlots
