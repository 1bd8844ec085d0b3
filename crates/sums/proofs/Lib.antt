-- The laws of a sum that grows.
pub mod Growth
