-- How the conversion of a word stands in a draft.
pub mod Shapes
pub mod Forms
