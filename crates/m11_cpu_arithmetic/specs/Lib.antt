pub mod Branches
pub mod Doubles
pub mod Extended
pub mod Laws
pub mod Results
pub mod Shifts
pub mod Singles
pub mod Sizes
