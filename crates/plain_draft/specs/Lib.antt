-- What the draft of a plain form is.
pub mod Forming
