-- A table that grows, with its index, and one that is written.
pub mod State
pub mod Written
