-- How the call for a move ends.
pub mod Ends
