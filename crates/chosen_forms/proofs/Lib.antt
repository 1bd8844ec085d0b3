-- The slots of a word's steady and recurring forms.
pub mod Rewritten
