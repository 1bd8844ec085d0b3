-- What the promise about the words of a form cites.
pub mod Formable
