-- One word's turn.
pub mod Looped
pub mod WordRow
