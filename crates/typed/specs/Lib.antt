-- A rule as text: its bytes, and how many are counted.
pub mod Typed
