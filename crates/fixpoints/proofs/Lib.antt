-- The until-like words, their bits, and the positions that are kept.
pub mod UntilLike
pub mod Positions
