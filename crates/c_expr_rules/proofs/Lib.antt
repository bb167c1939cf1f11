pub mod CommonKinds
pub mod Converted
pub mod Held
pub mod Truths
pub mod OperandLists
pub mod TablesGrown
pub mod WrittenExpressions
pub mod Rows
