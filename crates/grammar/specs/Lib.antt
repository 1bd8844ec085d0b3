-- The grammar of rules typed as text, and a reader of it.
pub mod Grammar
pub mod Reader
