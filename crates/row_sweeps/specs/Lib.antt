-- What the first pass of a sweep makes of a row.
pub mod Carried
