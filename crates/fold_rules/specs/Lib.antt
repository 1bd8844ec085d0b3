-- What the promises about folding a word cite.
pub mod Rules
