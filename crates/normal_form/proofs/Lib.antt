-- How the normal-form step ends.
pub mod Ends
