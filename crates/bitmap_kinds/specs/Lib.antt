pub mod Kinds
pub mod Promises
pub mod Steps
pub mod Samples
