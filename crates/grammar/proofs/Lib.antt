-- The reader reads exactly the grammar, and stops where no continuation could help.
pub mod Complete
pub mod Sound
pub mod Viable
pub mod Examples
