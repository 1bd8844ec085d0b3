-- Where the slots of a word stand.
pub mod Places
