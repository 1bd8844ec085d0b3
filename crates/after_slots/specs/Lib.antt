-- What the slots of a step by a sample are.
pub mod Slots
