pub mod Attributes
pub mod Lines
