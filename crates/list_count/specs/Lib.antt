pub mod Bodies
pub mod Counting
pub mod Parts
