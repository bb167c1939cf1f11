pub mod ParameterTypes
pub mod Specified
pub mod Declarations
