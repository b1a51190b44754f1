pub mod Driver
pub mod FaultLines
pub mod Outcome
