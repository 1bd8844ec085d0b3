-- Which words name a letter that is not driven.
pub mod LetterKinds
