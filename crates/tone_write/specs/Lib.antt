pub mod Judging
pub mod Appending
pub mod Promise
