-- The laws of one part more.
pub mod Parts
