pub mod Answers
pub mod Blocks
pub mod Requests
pub mod Running
