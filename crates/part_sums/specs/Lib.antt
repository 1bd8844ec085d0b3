-- What the promises about the parts of choices cite.
pub mod Joining
