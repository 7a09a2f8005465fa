pub mod Counting
pub mod Digits
pub mod Dates
pub mod Taking
pub mod Standing
pub mod Putting
pub mod Rules
