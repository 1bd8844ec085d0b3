-- The laws of a look at the parts.
pub mod Looks
