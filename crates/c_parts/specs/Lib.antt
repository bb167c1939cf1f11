pub mod Terminals
pub mod Scopes
pub mod Kinds
pub mod Part
pub mod Reading
pub mod Production
pub mod Following
