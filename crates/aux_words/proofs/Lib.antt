pub mod Halves
pub mod Reading
pub mod Writing
pub mod Installing
