-- What a step by a sample leaves, and what a run of such steps does.
pub mod Remaining
pub mod Run
