-- The laws of a draft that is folded slot by slot.
pub mod Told
pub mod Roots
pub mod Folds
