-- The history of calls, and what it says of each desk and of the house.
pub mod History
