-- The levels of the classes.
pub mod Levels
