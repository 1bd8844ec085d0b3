-- Laws of the automaton of a plain table as words.
pub mod Numbers
pub mod States
pub mod Promise
pub mod Letters
pub mod Examples
