-- What an operator stands for, and what its row holds.
pub mod Looped
