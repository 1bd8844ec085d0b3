-- Laws of what is kept of words and their states.
pub mod States
pub mod Counting
