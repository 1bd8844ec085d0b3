-- The tally.
pub mod Tallies
