-- What a plain form is drafted and numbered with.
pub mod Rooms
