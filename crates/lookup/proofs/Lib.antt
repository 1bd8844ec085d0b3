-- The laws of the index.
pub mod Laws
