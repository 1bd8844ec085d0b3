-- What a judgement answers, what it leaves in the scratch, and the tallies after it.
pub mod Judging
