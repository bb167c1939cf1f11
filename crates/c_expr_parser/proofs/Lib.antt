pub mod Binary
pub mod Rooms
pub mod Collected
pub mod Present
pub mod Returned
