pub mod Pieces
pub mod Causes
pub mod Words
pub mod Clauses
pub mod RuleNumbers
mod Refusals
