pub mod Spelling
pub mod Trimming
pub mod Exits
pub mod Spaces
pub mod Rules
pub mod Unique
pub mod Calls
