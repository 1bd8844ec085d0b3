-- A slot's operands in turn.
pub mod Arity
pub mod Turns
