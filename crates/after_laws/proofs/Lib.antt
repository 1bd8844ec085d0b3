-- The laws of a remainder's table, whoever makes it, and of a run.
pub mod Length
pub mod Promise
pub mod Following
