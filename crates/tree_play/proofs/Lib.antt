pub mod Related
pub mod More
pub mod Far
mod EndsLast
mod Depth
mod Histories
mod Gapless
mod Torn
mod Legality
