-- The kinds that stand for no operator.
pub mod LeftOver
