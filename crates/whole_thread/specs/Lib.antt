pub mod Standing
pub mod Act
pub mod CodePlay
pub mod Thread
pub mod Answers
pub mod PlaysOn
pub mod Worked
