-- Which letters are named that are not driven, word by word.
pub mod Letters
