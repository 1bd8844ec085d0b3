-- The letters of a conversion.
pub mod Letters
