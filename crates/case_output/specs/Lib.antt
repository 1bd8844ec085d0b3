pub mod Fields
pub mod Sums
