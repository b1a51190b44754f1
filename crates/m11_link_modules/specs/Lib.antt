pub mod Grammar
pub mod Laws
pub mod Names
pub mod Parts
pub mod Positions
pub mod Rules
pub mod Steps
pub mod TextRelocation
