pub mod Overs
pub mod Cuts
pub mod Wishing
pub mod Tallies
pub mod Judgements
