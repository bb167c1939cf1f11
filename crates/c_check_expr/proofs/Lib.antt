pub mod Growing
pub mod Outcomes
pub mod Lists
pub mod Trees
pub mod Recursion
pub mod Joined
