pub mod Lists
pub mod Compiled
