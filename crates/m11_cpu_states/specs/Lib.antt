pub mod Slices
pub mod States
pub mod Typed
