pub mod Arguments
pub mod Commands
pub mod Opened
pub mod Plans
pub mod Tasks
pub mod Usage
