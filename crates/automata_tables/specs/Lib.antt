-- The automaton of a plain table as words.
pub mod States
pub mod Moves
pub mod Recognises
