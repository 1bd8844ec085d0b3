-- What becomes of a slice to which a move is written, and how the call ends.
pub mod Answered
