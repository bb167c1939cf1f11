pub mod Expressions
pub mod Declarators
pub mod Statements
pub mod Levels
pub mod BodyLevels
pub mod Claimed
pub mod Rows
pub mod FileRows
