pub mod Directives
pub mod Hashes
pub mod ListedOperations
pub mod Elements
pub mod Reads
pub mod LineContext
pub mod CodeValues
