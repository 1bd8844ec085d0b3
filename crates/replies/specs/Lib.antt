-- The answers of the steps as numbers.
pub mod Replies
