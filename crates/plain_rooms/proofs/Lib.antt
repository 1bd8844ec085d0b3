-- A plain form drafted and numbered.
pub mod Start
pub mod Rooms
