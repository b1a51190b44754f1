pub mod Passes
pub mod Outputs
pub mod States
pub mod Writes
