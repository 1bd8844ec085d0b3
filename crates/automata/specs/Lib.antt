-- Alternating automata: source 002, section 7.1.
pub mod Positive
pub mod Automaton
