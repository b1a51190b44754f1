pub mod Actuals
pub mod Bodies
pub mod Formals
pub mod Labels
pub mod Listed
pub mod Order
pub mod Parts
pub mod Statements
