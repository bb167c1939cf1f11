pub mod Contents
pub mod StaticPlaces
pub mod Closing
pub mod Calls
