pub mod Actions
pub mod Assigned
pub mod Counting
pub mod Faults
pub mod Labels
pub mod Lines
pub mod Moved
pub mod UsedSymbols
