-- The checks of a judgement after those of its table.
pub mod Checks
