pub mod Blocks
pub mod Again
pub mod Pairs
pub mod Scopes
pub mod OneThing
pub mod Stacks
