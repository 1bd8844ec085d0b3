-- Laws of the normal form's table.
pub mod Chosen
pub mod ChoiceOrder
pub mod Distinct
pub mod Subformulas
pub mod LettersKept
pub mod LengthBound
pub mod Promise
