pub mod Seeing
pub mod Stepping
pub mod Walking
pub mod Fillings
