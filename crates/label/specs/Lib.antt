pub mod Label
pub mod Promises
