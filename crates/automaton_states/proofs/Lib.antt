-- How the call for the states ends.
pub mod Ends
