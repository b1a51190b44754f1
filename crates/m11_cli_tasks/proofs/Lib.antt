pub mod Addresses
pub mod Commanded
pub mod Entered
pub mod Entries
pub mod Numbers
pub mod Counts
pub mod Opening
pub mod Planned
