-- A draft numbered in rooms of a size.
pub mod Rooms
