-- The laws of the checks of uses.
pub mod Uses
