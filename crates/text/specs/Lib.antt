-- Rules typed as text: the step, and what is replied by the grammar alone.
pub mod Text
pub mod Reply
