pub mod Code
pub mod Correct
pub mod Lists
pub mod Worked
