pub mod Claim
pub mod Claims
pub mod Publish
