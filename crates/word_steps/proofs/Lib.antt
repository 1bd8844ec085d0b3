-- The laws of one word made of others.
pub mod Doubling
pub mod Words
