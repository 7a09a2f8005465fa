pub mod Salvage
pub mod Promises
pub mod Answers
pub mod Samples
