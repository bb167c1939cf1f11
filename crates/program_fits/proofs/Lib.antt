pub mod Loops
pub mod Homes
pub mod Callees
pub mod Expressions
pub mod Room
pub mod Statements
pub mod Programs
pub mod Kept
