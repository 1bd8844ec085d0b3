-- What the promises about sums of parts cite.
pub mod Summed
