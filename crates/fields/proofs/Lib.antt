-- A word checked by the layout of its kind.
pub mod Layouts
