pub mod Parts
pub mod Allowed
pub mod Addresses
pub mod Firsts
pub mod Limits
