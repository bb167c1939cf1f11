pub mod ClaimSteps
pub mod ClaimAlone
pub mod ClaimAnswers
pub mod Filling
pub mod PublishSteps
