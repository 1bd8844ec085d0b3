-- The until-like words of a plain table, and the positions that are kept of them.
pub mod Positions
