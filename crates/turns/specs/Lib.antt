-- The reader of the grammar as the code has it, over the numbers of words.
pub mod Numbers
