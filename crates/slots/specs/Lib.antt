-- A slot of a draft.
pub mod Slot
