pub mod Qualified
pub mod Atomic
pub mod Members
