-- Formulas made of formulas, a file a concept.
pub mod Rewriting
pub mod NormalForm
pub mod Dialect
pub mod Folding
pub mod After
-- What the theorem on the normal form speaks of.
pub mod Subformula
pub mod Recurrence
pub mod Choice
