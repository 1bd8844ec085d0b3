-- What a backward sweep carries from one word to the word below.
pub mod Carried
