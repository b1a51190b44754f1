pub mod Emit
pub mod FirstPass
pub mod Front
pub mod Objects
pub mod Outputs
pub mod Written
pub mod SecondPass
