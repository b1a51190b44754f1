pub mod Assembled
pub mod Carried
pub mod Given
pub mod Linked
pub mod Sources
