-- A choice's draft while it is filled.
pub mod Drafting
pub mod WordByWord
pub mod Part
