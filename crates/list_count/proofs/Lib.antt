pub mod Bodies
pub mod Counts
pub mod Parts
