pub mod Keeping
pub mod Beginning
