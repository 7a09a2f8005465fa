pub mod Accepting
pub mod Pieces
pub mod Filling
pub mod Told
pub mod Unique
pub mod Demand2
pub mod Order
