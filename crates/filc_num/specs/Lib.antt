pub mod Integers
pub mod CIntTypes
pub mod WordBytes
pub mod Reasons
pub mod Gives
pub mod Statics
pub mod StaticDefs
