pub mod Code
pub mod Programs
pub mod Correct
pub mod Worked
