pub mod BlockFaults
pub mod TapeFaults
pub mod TapeStops
pub mod Faults
