-- What the table of a move is written with.
pub mod Rooms
