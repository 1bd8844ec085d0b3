-- Laws of the automaton of a formula.
pub mod Classes
pub mod Sound
pub mod Occurring
pub mod Once
pub mod Closed
pub mod MoveModels
pub mod Letters
pub mod Complete
pub mod Examples
pub mod Promise
