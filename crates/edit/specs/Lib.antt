pub mod Editing
pub mod Plan
pub mod Promise
