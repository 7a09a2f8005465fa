pub mod Packed
pub mod Counting
