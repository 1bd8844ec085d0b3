-- What an accepted judgement says of its rows.
pub mod Accepted
pub mod LastRow
pub mod Tallies
