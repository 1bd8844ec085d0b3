-- What the promise about parts that fold to true cites.
pub mod Looked
