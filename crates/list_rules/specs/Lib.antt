pub mod Duration
pub mod Sounding
pub mod Ranges
pub mod Playing
pub mod Tempo
pub mod Listing
pub mod Samples
