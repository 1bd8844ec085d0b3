-- The normal-form step by itself; the whole way from a written table: what it answers and leaves, and demand 3 as one claim.
pub mod FormStep
pub mod Whole
pub mod Claim
