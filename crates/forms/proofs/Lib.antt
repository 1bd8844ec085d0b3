-- A form in a part of the slice that is as long as it can need.
pub mod Tiers
