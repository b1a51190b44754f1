pub mod Lines
pub mod Links
pub mod Refusals
pub mod Reports
pub mod Runs
pub mod Streams
pub mod Usage
