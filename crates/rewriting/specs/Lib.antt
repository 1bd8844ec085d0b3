-- The rewritings, and the slots of a choice's draft that stand for a word's opening form.
pub mod Slots
