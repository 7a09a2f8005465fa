pub mod Answers
pub mod Standing
