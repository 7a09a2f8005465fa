pub mod Pack
pub mod Answers
pub mod Promises
pub mod Samples
