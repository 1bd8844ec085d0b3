-- The class step's lemmas.
pub mod Room
pub mod Promise
