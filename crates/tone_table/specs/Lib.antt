pub mod Judging
pub mod Answers
