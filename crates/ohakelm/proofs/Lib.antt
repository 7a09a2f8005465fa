pub mod Exits
pub mod Unique
pub mod Room
pub mod Origins
