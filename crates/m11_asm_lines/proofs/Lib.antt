mod Assigning
mod EachSeen
mod Exporting
mod FirmCounters
pub mod FirmEffects
pub mod Gathering
mod Labelling
pub mod Refusals
pub mod Room
