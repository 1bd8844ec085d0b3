-- What a word of an accepted table is, taken apart, and the kind that a plain form puts for its kind.
pub mod Source
pub mod Kinds
