pub mod Casts
pub mod Comparing
pub mod DoublePrecision
pub mod Dividing
pub mod Exact
pub mod PairShifting
pub mod Shifting
