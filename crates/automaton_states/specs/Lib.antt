-- What becomes of a slice to which words without a header are written.
pub mod Listed
