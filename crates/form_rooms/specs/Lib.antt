-- What a form is asked with.
pub mod Rooms
