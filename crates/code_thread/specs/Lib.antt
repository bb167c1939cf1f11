pub mod Exec
pub mod Thread
pub mod Follows
