pub mod Decimals
pub mod Refusing
pub mod Reporting
