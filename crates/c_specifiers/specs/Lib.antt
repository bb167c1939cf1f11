pub mod Specifiers
pub mod QualifierSets
pub mod Lists
pub mod NamesOfTypes
