-- Laws of positive boolean formulas and of automata.
pub mod Examples
pub mod Models
pub mod Renaming
