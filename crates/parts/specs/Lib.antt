-- What the promises about a part cite.
pub mod Parts
