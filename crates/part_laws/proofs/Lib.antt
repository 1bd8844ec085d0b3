-- The laws of the parts of unfolded forms.
pub mod Words
pub mod Choices
pub mod Promise
pub mod Judged
