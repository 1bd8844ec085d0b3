-- What a hash index of a table's words says.
pub mod Index
