-- A part, folded, and numbered from no numbers.
pub mod Foldable
pub mod Unnumbered
