pub mod Named
pub mod Plain
pub mod Code
pub mod Around
pub mod Begun
pub mod Blocks
