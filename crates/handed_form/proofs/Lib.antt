-- What the normal-form step hands back.
pub mod Handed
