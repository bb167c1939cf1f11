pub mod Kept
pub mod Rows
pub mod Told
pub mod Characters
