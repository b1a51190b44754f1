pub mod Object
pub mod Outputs
