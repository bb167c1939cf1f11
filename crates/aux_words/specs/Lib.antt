pub mod HalfSteps
pub mod ReadHalf
pub mod WriteHalf
pub mod Install
