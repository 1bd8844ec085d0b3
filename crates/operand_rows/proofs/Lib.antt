-- A row as a part of the scratch.
pub mod Parts
