pub mod Judging
pub mod Promise
