-- What the class of words is asked with.
pub mod Headable
