-- What the slots of a word are, where it is a constant, an and, an or, or a letter.
pub mod Slots
