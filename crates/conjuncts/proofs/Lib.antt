-- Conjuncts joined one after the other.
pub mod Stores
pub mod Members
pub mod Forms
pub mod Conjoining
