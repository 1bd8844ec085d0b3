-- What the slots of a word are, where it is X.
pub mod Slots
