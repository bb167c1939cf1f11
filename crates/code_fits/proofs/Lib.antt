pub mod Instructions
pub mod Operations
pub mod Expressions
pub mod Statements
pub mod Programs
