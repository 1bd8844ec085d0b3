-- What the draft of a conversion is.
pub mod Filling
