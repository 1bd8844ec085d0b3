-- What a remainder's table is written with.
pub mod Rooms
