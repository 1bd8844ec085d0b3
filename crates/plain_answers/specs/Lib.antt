-- What the plain-form step's promises cite.
pub mod Formable
