-- Laws of the checks of a table with its header.
pub mod Order
