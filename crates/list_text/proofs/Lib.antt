pub mod Texts
pub mod Answering
