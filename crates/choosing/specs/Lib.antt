-- A choice's draft: the slots of all words.
pub mod Filled
