pub mod Cases
mod ActualsOfCalls
mod Created
mod Fillings
mod Headers
mod Immediately
mod Insides
mod Numerals
mod Repetitions
mod SameSecond
mod Tests
mod Texts
mod Calls
mod Constructs
pub mod Ending
pub mod Expanding
pub mod Following
pub mod MoreLines
pub mod OneUnfolding
mod OpenConditions
pub mod Operators
pub mod OtherLines
mod RepeatedBodies
