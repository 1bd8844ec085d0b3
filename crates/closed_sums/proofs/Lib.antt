-- The law of a sum of all parts.
pub mod Closing
