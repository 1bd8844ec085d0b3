-- What a conversion keeps.
pub mod Converted
