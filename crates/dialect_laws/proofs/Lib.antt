-- The laws of a conversion's table, whoever makes it.
pub mod Length
pub mod Operands
pub mod Promise
