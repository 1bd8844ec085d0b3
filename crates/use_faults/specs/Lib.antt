-- What the marks of operands say.
pub mod Marks
