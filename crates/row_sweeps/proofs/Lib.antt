-- The laws of sweeps over rows.
pub mod Sweeps
