pub mod Weights
pub mod Walks
pub mod GoodTables
pub mod Places
pub mod Grounds
pub mod Order
