-- The theorem's lemmas, a group of them a file; the theorem itself is `Lasso`.
pub mod PlainFormula
pub mod Monotonicity
pub mod SteadyForm
pub mod RecurringForm
pub mod Stability
pub mod OpeningForm
pub mod Conjuncts
pub mod Membership
pub mod Junctions
pub mod Choices
pub mod Parts
pub mod ExactChoice
pub mod NormalForm
pub mod Class
pub mod Lasso
pub mod TrueParts
