pub mod Bodies
pub mod Pieces
pub mod Grounds
