pub mod Outcomes
pub mod Agreeing
