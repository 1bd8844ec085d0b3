-- Theorems about the definitions of specs/, a folder or a file a subject.
pub mod Examples
pub mod Orders
pub mod Letters
pub mod Normal
pub mod Dialect
pub mod Folding
pub mod After
