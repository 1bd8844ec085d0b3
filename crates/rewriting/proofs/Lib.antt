-- The slots of a word's opening form.
pub mod Opened
