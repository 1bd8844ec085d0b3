-- What the bytes of a table are filled with.
pub mod Words
