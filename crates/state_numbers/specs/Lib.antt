-- The numbers of the states of words, as they are kept.
pub mod Numbered
