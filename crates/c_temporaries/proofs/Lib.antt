pub mod Most
pub mod TemporaryTrees
pub mod StatementNeeds
