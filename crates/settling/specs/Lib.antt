-- The end of an operand.
pub mod Settled
