pub mod Outcomes
pub mod Adjusting
pub mod Keeping
pub mod Specifying
pub mod Declaring
