pub mod Numbers
pub mod Between
pub mod Registers
pub mod Stretch
pub mod Expressions
pub mod Statements
pub mod Program
pub mod Views
pub mod Patch
pub mod Formed
mod Idling
