-- The conjuncts of a part, over the forms of all words.
pub mod Filled
pub mod Conjunct
