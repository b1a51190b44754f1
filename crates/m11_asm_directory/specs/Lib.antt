pub mod Definitions
pub mod FirstPass
pub mod Laws
pub mod Names
pub mod References
pub mod Rows
pub mod Transfers
