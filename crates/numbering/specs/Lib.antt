-- What a table that is being built holds.
pub mod Held
