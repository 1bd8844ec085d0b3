-- What the slots of a word are, where it is U, W, R or M.
pub mod Slots
