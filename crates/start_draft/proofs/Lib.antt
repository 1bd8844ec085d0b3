-- The laws of the start while its draft is filled.
pub mod Forms
