pub mod Words
pub mod Values
pub mod Grammar
pub mod Bodies
pub mod Files
pub mod Spelling
