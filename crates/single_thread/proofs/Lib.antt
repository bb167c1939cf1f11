pub mod Lone
pub mod Gained
pub mod Moments
pub mod Fewer
pub mod Legal
pub mod More
pub mod Turns
pub mod Unfinished
