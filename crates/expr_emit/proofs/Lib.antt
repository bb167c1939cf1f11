pub mod Views
pub mod Tails
pub mod Steps
pub mod Puts
