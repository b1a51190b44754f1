pub mod Cases
mod Switches
mod Words
mod Pieces
pub mod Stacks
pub mod Whole
pub mod WithoutFormals
pub mod Nothing
mod Innermost
