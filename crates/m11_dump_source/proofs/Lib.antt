pub mod Stored
pub mod LinesShown
pub mod Marked
pub mod Sourced
