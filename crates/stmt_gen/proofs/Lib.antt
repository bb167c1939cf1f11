pub mod Sizes
pub mod Flows
pub mod Blocks
pub mod Switches
pub mod Loops
pub mod Statements
pub mod Cuts
pub mod Stands
pub mod Calls
pub mod Programs
mod Idling
