-- The laws of a move while its draft is filled.
pub mod Moves
pub mod Forms
