pub mod Linked
pub mod Targets
