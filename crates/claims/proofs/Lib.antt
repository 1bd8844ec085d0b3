pub mod Plain
pub mod FormStep
pub mod Promise
