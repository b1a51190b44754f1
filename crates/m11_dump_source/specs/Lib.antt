pub mod Memory
pub mod Lines
pub mod Labels
pub mod Texts
pub mod Run
