-- What is read off a row.
pub mod Reading
