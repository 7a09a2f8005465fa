pub mod Table
pub mod Tone
pub mod Writing
pub mod Reading
