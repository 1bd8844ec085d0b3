-- Which formulas are fixpoints of a kind, and what their conjuncts are made of.
pub mod Kinds
