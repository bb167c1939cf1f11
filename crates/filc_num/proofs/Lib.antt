pub mod Residues
pub mod Conversions
pub mod Outcomes
pub mod WordBytes
