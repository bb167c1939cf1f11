pub mod Peeling
pub mod Unrolling
