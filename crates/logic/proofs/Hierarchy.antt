-- The class byte: what its bits say, and how it comes from the operands' bytes.
pub mod Closure
pub mod Bits
pub mod ClassBit
pub mod Step
