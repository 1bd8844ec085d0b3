-- What the checks of a judgement say.
pub mod Outcomes
