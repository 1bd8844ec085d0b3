-- Two recordings held against each other: the answer, what it says of them, and rules that tell them apart.
pub mod Comparing
pub mod Difference
pub mod Telling
pub mod Replies
