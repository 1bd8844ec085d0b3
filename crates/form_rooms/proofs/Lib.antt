-- Forms in rooms of a size.
pub mod Rooms
