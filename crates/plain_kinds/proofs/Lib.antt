-- What the shapes of plain tables stand for.
pub mod Shapes
