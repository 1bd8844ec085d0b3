-- What a conversion's table is written with.
pub mod Rooms
