-- What a letter becomes by a sample.
pub mod Constant
