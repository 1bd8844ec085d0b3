-- Laws of a plain form's table.
pub mod Slots
pub mod Promise
