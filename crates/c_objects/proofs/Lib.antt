pub mod Puts
pub mod Words
pub mod Newest
pub mod StaticLists
pub mod Ends
pub mod KindViews
