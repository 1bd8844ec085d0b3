-- What is replied.
pub mod Outcomes
pub mod Promise
