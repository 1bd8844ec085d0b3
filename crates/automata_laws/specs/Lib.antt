-- The alternating automaton of a formula: source 002, section 7.2, for the class Δ₂.
pub mod StateClass
pub mod FormulaAutomaton
pub mod Recognises
