-- What an answer of the judge says of a rule, and which samples are judged alike.
pub mod Answers
pub mod Alike
