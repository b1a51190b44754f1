pub mod Pieces
pub mod Limits
pub mod Passing
pub mod Given
pub mod Reached
pub mod Feeds
pub mod HowFar
mod PlainLines
