-- The calls of a watching automaton as steps, and what they tell where they are answered.
pub mod Steps
pub mod Watching
