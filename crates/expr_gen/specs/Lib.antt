pub mod Operations
pub mod Code
pub mod Stretch
pub mod Correct
pub mod Worked
