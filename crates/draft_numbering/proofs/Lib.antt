-- The laws of numbering a draft.
pub mod Next
pub mod Room
pub mod Steps
pub mod Zeros
pub mod Remembering
pub mod Going
pub mod Fresh
