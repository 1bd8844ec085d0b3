-- What the slots of a word's states stand for.
pub mod Standing
pub mod Classes
