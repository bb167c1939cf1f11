pub mod Names
pub mod Stacking
pub mod SameLengths
pub mod Merges
