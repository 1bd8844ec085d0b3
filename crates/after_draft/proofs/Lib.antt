-- The laws of a step while its draft is filled.
pub mod Forms
