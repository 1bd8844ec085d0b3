-- The code is the reader of the grammar, over the numbers of words.
pub mod Imaging
pub mod Parsing
