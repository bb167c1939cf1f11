pub mod Operations
pub mod Work
pub mod Alone
pub mod Answers
pub mod Steps
