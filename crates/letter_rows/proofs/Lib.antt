-- A letter's word, or its denial's.
pub mod Denied
