-- The promise of a judgement.
pub mod Promise
pub mod Alike
