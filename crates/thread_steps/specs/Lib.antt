pub mod Blocks
pub mod Registers
pub mod Stands
pub mod Usable
pub mod Turns
pub mod Passing
pub mod Short
