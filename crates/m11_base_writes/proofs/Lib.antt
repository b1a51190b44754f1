pub mod Looping
pub mod Putting
pub mod Writing
