pub mod Waiting
pub mod Stated
pub mod Returning
pub mod StatementLists
pub mod Bodied
