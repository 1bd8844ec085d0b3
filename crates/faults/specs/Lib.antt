-- What reading words tells, and the checks past those of the whole table.
pub mod Marks
pub mod Contents
