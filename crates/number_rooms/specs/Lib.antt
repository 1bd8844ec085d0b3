-- What a draft is numbered with.
pub mod Rooms
