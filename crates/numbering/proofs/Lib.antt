-- The laws of numbering words as first needed.
pub mod Search
pub mod Building
pub mod Formulas
pub mod Built
pub mod Used
pub mod Subformulas
pub mod Accepted
pub mod Driven
pub mod Lengths
