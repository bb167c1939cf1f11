pub mod Cuts
pub mod Registers
pub mod Threads
pub mod Follow
