pub mod Listed
pub mod NextParts
pub mod Packs
pub mod Stepping
pub mod TextSteps
mod Asking
mod Coding
mod Counted
