pub mod Kept
pub mod Purposes
pub mod Sources
pub mod Steps
pub mod Unfolder
pub mod Views
