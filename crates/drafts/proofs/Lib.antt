-- The laws of drafts.
pub mod Drafts
pub mod Growth
