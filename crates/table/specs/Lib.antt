-- The definitions of rule tables: their words, what they mean, what they are checked for, and how a form is written as one.
pub mod Node
pub mod Table
pub mod Checks
pub mod Header
pub mod Numbering
pub mod Steps
pub mod StepChecks
pub mod Limits
pub mod Answers
pub mod Frame
pub mod Cases
