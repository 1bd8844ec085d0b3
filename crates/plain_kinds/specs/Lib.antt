-- What a plain kind stands for.
pub mod PlainKind
