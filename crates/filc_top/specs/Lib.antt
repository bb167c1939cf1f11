pub mod Commands
pub mod Endings
pub mod Checking
pub mod Coding
pub mod Writing
pub mod Headline
pub mod Clauses
pub mod Steps
