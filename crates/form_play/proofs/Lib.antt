pub mod Far
pub mod More
mod Beginnings
mod EndsLast
mod Objects
