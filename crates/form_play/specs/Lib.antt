pub mod FormPlay
pub mod Legal
pub mod Observable
pub mod MoreRounds
pub mod Beginnings
pub mod EndsLast
pub mod Objects
pub mod Worked
