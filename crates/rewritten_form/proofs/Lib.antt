-- How the normal-form step ends with words that are rewritten.
pub mod Ends
