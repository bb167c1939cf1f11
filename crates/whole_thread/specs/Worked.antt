-- Worked plays: what each instruction asks and makes of the registers, and what short codes do.
pub mod Setting
pub mod Registers
pub mod Integers
pub mod Pointers
pub mod Rounds
pub mod Intrinsics
pub mod Calls
pub mod Walks
