-- The laws of a form as a sum of its folded parts.
pub mod Whole
