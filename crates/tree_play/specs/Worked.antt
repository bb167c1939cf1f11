-- Worked plays: what single constructs and short programs ask, in which order.
pub mod Setting
pub mod Integers
pub mod Pointers
pub mod PairExchanges
pub mod Addresses
pub mod Intrinsics
pub mod Order
pub mod Changes
pub mod Statements
pub mod Copies
pub mod Printing
pub mod Programs
pub mod Lines
pub mod Histories
pub mod Legality
pub mod Depth
