-- The row call's reply.
pub mod Replied
