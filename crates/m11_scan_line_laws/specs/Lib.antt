pub mod Readings
pub mod Calls
pub mod Extents
pub mod Laws
