-- What the answer says of two recordings.
pub mod Bits
pub mod Window
pub mod Reading
pub mod Telling
pub mod Promise
