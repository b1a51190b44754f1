pub mod Fault
pub mod Loading
pub mod Messages
pub mod Runs
pub mod Simulation
