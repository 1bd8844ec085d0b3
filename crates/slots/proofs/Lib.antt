-- A slot's fields.
pub mod Fields
