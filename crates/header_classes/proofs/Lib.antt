-- Laws of the class of words.
pub mod Headable
