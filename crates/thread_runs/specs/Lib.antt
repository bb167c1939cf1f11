pub mod Run
pub mod AsPlayed
