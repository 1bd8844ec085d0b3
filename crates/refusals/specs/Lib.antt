-- Refusals, their numbers and places.
pub mod Refusals
