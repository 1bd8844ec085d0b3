-- The final line end of a text.
pub mod LineEnd
