pub mod Plain
pub mod Temps
pub mod Fits
pub mod Lists
