-- The bytes of a rule as text, counted word by word.
pub mod Counting
