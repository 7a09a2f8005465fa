pub mod Copies
pub mod Builds
