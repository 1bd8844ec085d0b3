-- The slots of words in their order.
pub mod Places
