-- What the draft of a step by a sample is.
pub mod Filling
