pub mod Reads
pub mod Opened
pub mod Nests
pub mod Refusals
