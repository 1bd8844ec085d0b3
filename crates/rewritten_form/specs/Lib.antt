-- What rewriting words to their form is asked with, and how it ends.
pub mod Forms
