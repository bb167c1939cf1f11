pub mod Output
pub mod PutByte
pub mod GetByte
pub mod BeginThread
pub mod Finish
