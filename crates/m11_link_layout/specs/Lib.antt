pub mod Fault
pub mod Tables
pub mod Globals
pub mod Modules
pub mod Plan
pub mod Layout
pub mod Sections
pub mod Transfers
