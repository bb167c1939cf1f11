pub mod Stating
pub mod Growth
pub mod Unmade
pub mod Counting
pub mod Fresh
pub mod Rowed
