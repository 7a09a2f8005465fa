pub mod Change
pub mod Answers
