pub mod Needs
pub mod TemporaryLists
