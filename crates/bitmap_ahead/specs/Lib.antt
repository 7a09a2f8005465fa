pub mod Digits
pub mod Ahead
