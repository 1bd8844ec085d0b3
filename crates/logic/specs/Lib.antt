-- The definitions of linear temporal logic that every promise rests on, a file a concept.
pub mod Formula
pub mod Letters
pub mod Bit
pub mod Lasso
pub mod Driven
pub mod Semantics
pub mod Hierarchy
pub mod ClassByte
pub mod NegationNormalForm
-- What is computed and proved equal: truth as a Bool, and the class byte from the operands' bytes.
pub mod Truth
pub mod ClassStep
