pub mod Finishing
pub mod Trying
pub mod Rules
mod Bounds
