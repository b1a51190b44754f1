pub mod Bodies
pub mod Laws
pub mod Limits
pub mod Levels
pub mod Putting
pub mod Shapes
pub mod Worked
