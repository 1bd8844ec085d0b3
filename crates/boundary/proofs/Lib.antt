pub mod FormJudged
