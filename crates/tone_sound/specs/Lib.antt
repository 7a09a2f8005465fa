pub mod Turning
pub mod Answers
