-- Why a word of an accepted table is so.
pub mod Words
