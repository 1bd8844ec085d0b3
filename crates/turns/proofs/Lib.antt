-- What a byte makes, and how much room it takes.
pub mod Making
pub mod Sizes
