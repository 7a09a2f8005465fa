pub mod Answered
pub mod Moving
pub mod Pairs
pub mod Stretches
