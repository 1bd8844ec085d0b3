-- Laws of the definitions of rule tables, a file a subject.
pub mod Fields
pub mod Shapes
pub mod KindRanges
pub mod Formulas
pub mod Accepted
pub mod Letters
pub mod Header
pub mod Stated
pub mod Frame
pub mod Normal
pub mod Cases
pub mod AfterCases
pub mod AfterStep
