-- How the calls of a watching automaton end, what they tell where they are answered, and the bits that a move looks at.
pub mod Last
pub mod States
pub mod Moves
pub mod Promise
pub mod Undriven
