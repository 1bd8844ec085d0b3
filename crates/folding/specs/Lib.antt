-- What the promises about folding a draft cite.
pub mod Folded
