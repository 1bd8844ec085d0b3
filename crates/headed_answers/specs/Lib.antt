-- How a step that made a table ends.
pub mod Finished
