pub mod Blocks
pub mod Frames
pub mod Limited
pub mod Tapes
