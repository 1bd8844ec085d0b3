-- The laws of states as they are written.
pub mod Stating
