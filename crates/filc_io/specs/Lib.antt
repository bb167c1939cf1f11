pub mod Counts
pub mod Outside
pub mod MemFiles
pub mod MemSource
pub mod MemSink
