-- The table that is made of a draft.
pub mod Numberable
