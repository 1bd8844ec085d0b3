-- Words copied under their header.
pub mod Copied
