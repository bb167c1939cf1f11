pub mod Plain
pub mod Operands
pub mod Temps
pub mod Fits
