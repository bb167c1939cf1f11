pub mod Meanings
pub mod Entries
pub mod Ahead
pub mod Loops
