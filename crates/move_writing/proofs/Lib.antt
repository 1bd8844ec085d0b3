-- A move numbered into the part of a slice that is lent.
pub mod Lent
