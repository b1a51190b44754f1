mod Assembling
mod Blanks
pub mod Counting
pub mod EachEnds
pub mod Ending
pub mod Falling
mod Faults
pub mod Fitting
pub mod Freely
pub mod Growing
pub mod KnownAlike
pub mod Labelled
mod Lacking
pub mod LinesCounted
pub mod LiveLines
pub mod MapsAlike
pub mod Named
pub mod Onward
mod Placing
pub mod Resting
mod Standing
pub mod Stepping
mod Turning
pub mod Unmoved
pub mod Within
