-- Which check of a list applies first.
pub mod First
