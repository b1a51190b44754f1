pub mod Opens
pub mod MemoryFiles
pub mod FileFeed
