pub mod Substitution
pub mod Conditions
pub mod Left
pub mod Bodies
pub mod Frames
pub mod Laws
