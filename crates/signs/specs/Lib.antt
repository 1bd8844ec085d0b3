-- What a byte begins.
pub mod Signed
