-- Theorems about the definitions of specs/, a folder a subject.
pub mod Numbers
pub mod Pigeonhole
pub mod Slices
pub mod Tests
pub mod Hierarchy
pub mod Lasso
pub mod Expansion
