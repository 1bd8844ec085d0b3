-- The laws of the parts of all choices.
pub mod ChoiceOrder
