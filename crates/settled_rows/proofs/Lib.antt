-- One step that leaves every position as it is.
pub mod Stepped
