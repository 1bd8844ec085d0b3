-- The laws of a plain form while its draft is filled.
pub mod Shapes
pub mod Filling
pub mod Forming
