pub mod Wishes
pub mod Answers
