pub mod Tail
pub mod Place
pub mod Lists
pub mod Groups
