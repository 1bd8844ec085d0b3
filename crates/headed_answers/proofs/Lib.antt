-- Laws of the end of a step that made a table.
pub mod Ends
pub mod Lent
pub mod Options
