-- The rules by kinds.
pub mod ByKind
