pub mod Listed
pub mod Sized
pub mod Texts
