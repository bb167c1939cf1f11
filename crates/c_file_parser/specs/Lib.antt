pub mod Constructs
pub mod Nests
pub mod Nearest
