pub mod Filling
pub mod Told
pub mod Unique
pub mod Order
