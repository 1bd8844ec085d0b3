-- A move of accepted words, and what is answered.
pub mod Given
