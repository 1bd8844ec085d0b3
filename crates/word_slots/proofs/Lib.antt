-- Slots written one after the other.
pub mod Stores
