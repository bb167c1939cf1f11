pub mod Views
pub mod Lists
pub mod Parts
pub mod Laws
