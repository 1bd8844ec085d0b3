-- Laws of what a letter becomes by a sample.
pub mod Constants
