-- What a slot of a draft stands for.
pub mod Drafted
