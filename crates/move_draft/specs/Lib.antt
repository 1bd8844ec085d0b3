-- What the draft of a move is.
pub mod Filling
