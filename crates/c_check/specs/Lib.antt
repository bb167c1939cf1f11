pub mod Known
pub mod Rounds
pub mod Tokens
pub mod Going
pub mod Answers
