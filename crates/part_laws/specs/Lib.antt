-- The parts of unfolded forms, and what they say of the words that they have chosen.
pub mod Parts
pub mod Told
pub mod Judged
