pub mod Plain
pub mod Numbers
pub mod Operands
pub mod WellFormed
pub mod Listing
pub mod Worked
