pub mod Before
pub mod Blocked
pub mod Bodies
pub mod Declared
pub mod Initialised
pub mod Receiving
pub mod StatementTrees
pub mod Steps
