pub mod Application
pub mod Places
pub mod Task
pub mod Outcome
pub mod Driver
