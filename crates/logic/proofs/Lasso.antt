-- The theorems of truth over a lasso, a file a subject.
pub mod Sequence
pub mod Period
pub mod Truth
pub mod Sweep
pub mod Duality
pub mod Stability
pub mod Driven
