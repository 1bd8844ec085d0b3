-- What the draft of the start is.
pub mod Filling
