pub mod Bits
pub mod Choice
pub mod Lent
pub mod Outcome
pub mod Places
pub mod Refusals
pub mod Sink
pub mod Window
