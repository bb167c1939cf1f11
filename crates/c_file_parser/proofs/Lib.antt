pub mod Rooms
pub mod Scoped
pub mod Wholes
pub mod BodyScopes
