pub mod Blocks
pub mod Closing
pub mod Fitting
pub mod Growing
pub mod Looping
pub mod Taking
