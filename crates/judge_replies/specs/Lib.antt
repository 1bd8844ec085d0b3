-- The answers of the judge and of the row call as numbers.
pub mod Replies
