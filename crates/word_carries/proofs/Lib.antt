-- The laws of what a sweep carries.
pub mod Carries
