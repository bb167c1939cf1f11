pub mod PutSteps
pub mod PutAlone
pub mod PutAnswers
pub mod PutsOnce
pub mod GetLaws
pub mod EndLaws
pub mod BeginLaws
