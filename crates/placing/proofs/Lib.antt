-- The laws of putting a word, and of writing a table.
pub mod Putting
pub mod Placing
pub mod Written
