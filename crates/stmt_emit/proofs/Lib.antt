pub mod Views
pub mod Steps
pub mod Puts
pub mod Statics
pub mod Programs
